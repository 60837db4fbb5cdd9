-- What one event answers and leaves.
use Rattle.std.specs.Prelude.{Bool, true, not}
use Rattle.sc_core.specs.CoreData.{CoreData}
use Rattle.sc_core.specs.Posts.{Posts, is_misfit}
use Rattle.sc_core.specs.Losses.{Loses, may_be_lost}
use Rattle.sc_core.specs.Releases.{Releases, has_no_shelved}
use Rattle.sc_core.specs.Sides.{StepsAside}
use Rattle.sc_core.specs.Takes.{Takes}
use Rattle.sc_core.specs.declared.answers.Answer.{Answer}
use Rattle.sc_core.specs.declared.events.Event.{Event}
use Rattle.sc_core.specs.declared.events.Event.TheVariants.{Post, Release, Side, Take, TellLost}

-- in a state an event may be answered so, and leaves this state
abbrev pub Steps : CoreData → Event → Answer → CoreData → Type 0
Steps c (Take exec) answer after = Takes c exec answer after
Steps c (Post attempt outcome) answer after = Posts c attempt outcome answer after
Steps c (Release key) answer after = Releases c key answer after
Steps c (TellLost exec) answer after = Loses c exec answer after
Steps c (Side event) answer after = StepsAside c event answer after

-- an event is enabled
abbrev pub is_enabled : CoreData → Event → Bool
is_enabled c (Post attempt outcome) = not (is_misfit c attempt outcome)
is_enabled c (Release key) = not (has_no_shelved c key)
is_enabled c (TellLost exec) = may_be_lost c exec
is_enabled c event = true
