-- Changes of what files show, where they show it.
use Rattle.std.specs.Prelude.{Option, Some, None, IfSome}
use Rattle.sc_base.specs.Outside.{Changes}
use Rattle.sc_base.specs.Trees.{Tree}

-- one change behind another
pub changes-compose : (R S Q : Tree → Tree → Type 0) (a b c : Option Tree)
    → ((t u v : Tree) → R t u → S u v → Q t v) → Changes R a b → Changes S b c → Changes Q a c
changes-compose R S Q None None None f x y = tt
changes-compose R S Q None None (Some v) f x y = absurd y
changes-compose R S Q None (Some u) c f x y = absurd x
changes-compose R S Q (Some t) None c f x y = absurd x
changes-compose R S Q (Some t) (Some u) None f x y = absurd y
changes-compose R S Q (Some t) (Some u) (Some v) f x y = f t u v x y

-- a change of which less is said
pub changes-weaker : (R S : Tree → Tree → Type 0) (a b : Option Tree)
    → ((t u : Tree) → R t u → S t u) → Changes R a b → Changes S a b
changes-weaker R S None None f x = tt
changes-weaker R S None (Some u) f x = absurd x
changes-weaker R S (Some t) None f x = absurd x
changes-weaker R S (Some t) (Some u) f x = f t u x

-- what held before a change gives what holds behind it
pub changes-after : (R : Tree → Tree → Type 0) (P Q : Tree → Type 0) (a b : Option Tree)
    → ((t u : Tree) → P t → R t u → Q u) → IfSome a P → Changes R a b → IfSome b Q
changes-after R P Q None None f p x = tt
changes-after R P Q None (Some u) f p x = absurd x
changes-after R P Q (Some t) None f p x = absurd x
changes-after R P Q (Some t) (Some u) f p x = f t u p x

-- a fact of which less is said, where there is something
pub if_some-weaker : {A : Type 0} (P Q : A → Type 0) (a : Option A)
    → ((t : A) → P t → Q t) → IfSome a P → IfSome a Q
if_some-weaker P Q None f p = tt
if_some-weaker P Q (Some t) f p = f t p

-- nothing changes where nothing happens
pub changes-none : (R : Tree → Tree → Type 0) (a : Option Tree)
    → ((t : Tree) → R t t) → Changes R a a
changes-none R None f = tt
changes-none R (Some t) f = f t
