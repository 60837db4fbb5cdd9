use Rattle.std.proofs.Common.{◌≡◌, string_bytes, take}
use Rattle.sc_core.specs.Stories.{story_text}
use Rattle.sc_core.proofs.stories.story.Given as goal

abbrev pub invariant-loop-entry : goal.invariant-loop-entry
invariant-loop-entry l =
    string_bytes l.text ≡ story_text l.attempt (take l.entry-index l.entries)
