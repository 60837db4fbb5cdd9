-- Lists of places that are linked both ways, and how they change.
use Rattle.std.proofs.Common.{◌≡◌, ◌⊎◌, inl, inr, ℕ, ◌||◌, Bool, true, false, cond, List, [], ◌∷◌, Option, Some, None, refl, ap, sym, subst, ◌∙◌, arith, rules, true≢false}
use Rattle.std.proofs.lemmas.Bool.Decides.{nat_tests}
use Rattle.std.proofs.lemmas.Bool.{or_right}
use Rattle.sc_tracker.specs.Lists.{AreLinked, AreOnce, has_place, is_same}
use Rattle.sc_tracker.specs.declared.links.Place.{Place}

-- ---- places

pub same_itself : (p : Place) → is_same p p ≡ true
same_itself p = grind (arith, nat_tests)

pub same_place : (p q : Place) → is_same p q ≡ true → p ≡ q
same_place p q e =
    let at : p.at ≡ q.at = grind (arith, nat_tests, e) in
    let map : p.map ≡ q.map = grind (arith, nat_tests, e) in
    ap (λ n. place n p.map) at ∙ ap (λ n. place q.at n) map
  where
    place : ℕ → ℕ → Place
    place at map = record { at = at; map = map }

pub same_turned : (p q : Place) → is_same p q ≡ is_same q p
same_turned p q = by (is_same p q) refl (is_same q p) refl
  where
    by : (a : Bool) → is_same p q ≡ a → (b : Bool) → is_same q p ≡ b → a ≡ b
    by true e true f = refl
    by false e false f = refl
    by true e false f =
        let is : p ≡ q = same_place p q e in
        sym (same_itself q) ∙ subst (λ r. is_same q r ≡ false) is f
    by false e true f =
        let is : q ≡ p = same_place q p f in
        sym e ∙ subst (λ r. is_same p r ≡ true) (sym is) (same_itself p)

pub clash : {b : Bool} → b ≡ true → b ≡ false → ⊥
clash e f = true≢false (sym e ∙ f)

pub in_front : (p : Place) (places : List Place) → has_place (p ∷ places) p ≡ true
in_front p places = ap (λ b. b || has_place places p) (same_itself p)

pub in_rest :
    (p q : Place) (places : List Place) → has_place places q ≡ true
    → has_place (p ∷ places) q ≡ true
in_rest p q places h = or_right (is_same p q) (has_place places q) h

-- where a place among some is
pub in_either :
    (p q : Place) (places : List Place) → has_place (p ∷ places) q ≡ true
    → (p ≡ q) ⊎ ((is_same p q ≡ false) × (has_place places q ≡ true))
in_either p q places h = by (is_same p q) refl h
  where
    by : (b : Bool) → is_same p q ≡ b → (b || has_place places q) ≡ true
        → (p ≡ q) ⊎ ((is_same p q ≡ false) × (has_place places q ≡ true))
    by true e h = inl (same_place p q e)
    by false e h = inr (e, h)

-- a place that isn't among some is none of them
pub not_in : (p q : Place) (places : List Place) → has_place places p ≡ false
    → has_place places q ≡ true → p ≡ q → ⊥
not_in p q places none some is = clash (subst (λ r. has_place places r ≡ true) (sym is) some) none

pub some_one : (p q : Place) → Some p ≡ Some q → p ≡ q
some_one p q e = search (rules, e)

-- ---- what links say

module _ (next back : Place → Option Place) where
  -- the first one is there, and knows what is before
  pub head_in : (before first : Option Place) (places : List Place) (q : Place)
      → AreLinked next back before first places → first ≡ Some q → has_place places q ≡ true
  head_in before first [] q none is = absurd (search (rules, sym none ∙ is))
  head_in before first (p ∷ places) q (at, has, rest) is =
      subst (λ r. has_place (p ∷ places) r ≡ true) (some_one p q (sym at ∙ is))
      (in_front p places)

  pub head_back : (before first : Option Place) (places : List Place) (q : Place)
      → AreLinked next back before first places → first ≡ Some q → back q ≡ before
  head_back before first [] q none is = absurd (search (rules, sym none ∙ is))
  head_back before first (p ∷ places) q (at, has, rest) is =
      subst (λ r. back r ≡ before) (some_one p q (sym at ∙ is)) has

  -- what is behind one of them is one of them
  pub next_in : (before first : Option Place) (places : List Place) (p q : Place)
      → AreLinked next back before first places → has_place places p ≡ true
      → next p ≡ Some q → has_place places q ≡ true
  next_in before first [] p q linked has is = absurd (true≢false (sym has))
  next_in before first (x ∷ places) p q (at, has_back, rest) has is =
      by (in_either x p places has) (λ h. next_in (Some x) (next x) places p q rest h is)
    where
      by : (x ≡ p) ⊎ ((is_same x p ≡ false) × (has_place places p ≡ true))
          → (has_place places p ≡ true → has_place places q ≡ true)
          → has_place (x ∷ places) q ≡ true
      by (inl same) more =
          in_rest x q places
          (head_in (Some x) (next x) places q rest (ap next same ∙ is))
      by (inr other) more = in_rest x q places (more other.1)

  -- before one of them that isn't the first stands another of them
  pub before_in : (before first : Option Place) (places : List Place) (p : Place)
      → AreLinked next back before first places → has_place places p ≡ true
      → (first ≡ Some p → ⊥)
      → (q : Place) × (back p ≡ Some q) × (has_place places q ≡ true)
  before_in before first [] p linked has later = absurd (true≢false (sym has))
  before_in before first (x ∷ []) p (at, has_back, none) has later = by (in_either x p [] has)
    where
      by : (x ≡ p) ⊎ ((is_same x p ≡ false) × (has_place [] p ≡ true))
          → (q : Place) × (back p ≡ Some q) × (has_place (x ∷ []) q ≡ true)
      by (inl same) = absurd (later (at ∙ ap Some same))
      by (inr other) = absurd (true≢false (sym other.1))
  before_in before first (x ∷ y ∷ places) p (at, has_back, rest) has later =
      by (in_either x p (y ∷ places) has)
      (λ h further. before_in (Some x) (next x) (y ∷ places) p rest h further)
    where
      second : (next x ≡ Some p) ⊎ (next x ≡ Some p → ⊥)
          → ((next x ≡ Some p → ⊥)
          → (q : Place) × (back p ≡ Some q) × (has_place (y ∷ places) q ≡ true))
          → (q : Place) × (back p ≡ Some q) × (has_place (x ∷ y ∷ places) q ≡ true)
      second (inl at_second) more = (
        x,
        head_back (Some x) (next x) (y ∷ places) p rest at_second,
        in_front x (y ∷ places),
      )
      second (inr further) more =
          let m = more further in (m.0, m.1, in_rest x m.0 (y ∷ places) m.2)

      decide : (b : Bool) → is_same y p ≡ b → (next x ≡ Some p) ⊎ (next x ≡ Some p → ⊥)
      decide true e = inl (rest.0 ∙ ap Some (same_place y p e))
      decide false e =
          inr (λ h. (let same : y ≡ p = some_one y p (sym rest.0 ∙ h) in
          clash (subst (λ r. is_same y r ≡ true) same (same_itself y)) e))

      by : (x ≡ p) ⊎ ((is_same x p ≡ false) × (has_place (y ∷ places) p ≡ true))
          → (has_place (y ∷ places) p ≡ true → (next x ≡ Some p → ⊥)
          → (q : Place) × (back p ≡ Some q) × (has_place (y ∷ places) q ≡ true))
          → (q : Place) × (back p ≡ Some q) × (has_place (x ∷ y ∷ places) q ≡ true)
      by (inl same) more = absurd (later (at ∙ ap Some same))
      by (inr other) more = second (decide (is_same y p) refl) (more other.1)

  pub back_in : (before first : Option Place) (places : List Place) (p q : Place)
      → AreLinked next back before first places → has_place places p ≡ true
      → (first ≡ Some p → ⊥) → back p ≡ Some q → has_place places q ≡ true
  back_in before first places p q linked has later is =
      let b = before_in before first places p linked has later in
      subst (λ r. has_place places r ≡ true) (some_one b.0 q (sym b.1 ∙ is)) b.2

-- ---- other links

module _ (next back next' back' : Place → Option Place) where
  -- links that are the same at all of them
  pub links_same : (before first : Option Place) (places : List Place)
      → ((q : Place) → has_place places q ≡ true → (next' q ≡ next q) × (back' q ≡ back q))
      → AreLinked next back before first places → AreLinked next' back' before first places
  links_same before first [] same linked = linked
  links_same before first (p ∷ places) same (at, has, rest) =
      let here = same p (in_front p places) in (
        at,
        here.1 ∙ has,
        subst (λ n. AreLinked next' back' (Some p) n places) (sym here.0)
            (links_same (Some p) (next p) places (λ q h. same q (in_rest p q places h)) rest),
      )

  -- and those where the first one has another before it
  pub links_behind : (before after first : Option Place) (places : List Place)
      → AreOnce places → AreLinked next back before first places
      → ((q : Place) → first ≡ Some q → back' q ≡ after)
      → ((q : Place) → has_place places q ≡ true → next' q ≡ next q)
      → ((q : Place) → has_place places q ≡ true → (first ≡ Some q → ⊥) → back' q ≡ back q)
      → AreLinked next' back' after first places
  links_behind before after first [] once linked here nexts backs = linked
  links_behind before after first (p ∷ places) once (at, has, rest) here nexts backs = (
    at,
    here p at,
    subst (λ n. AreLinked next' back' (Some p) n places) (sym (nexts p (in_front p places)))
        (links_same (Some p) (next p) places
        (λ q h. (
          nexts q (in_rest p q places h),
          backs q (in_rest p q places h)
              (λ is. not_in p q places once.0 h (some_one p q (sym at ∙ is))),
        )) rest),
  )

  -- one more in front
  pub links_pushed : (first : Option Place) (places : List Place) (p : Place)
      → AreOnce places → AreLinked next back None first places
      → next' p ≡ first → back' p ≡ None
      → ((q : Place) → first ≡ Some q → back' q ≡ Some p)
      → ((q : Place) → has_place places q ≡ true → next' q ≡ next q)
      → ((q : Place) → has_place places q ≡ true → (first ≡ Some q → ⊥) → back' q ≡ back q)
      → AreLinked next' back' None (Some p) (p ∷ places)
  links_pushed first places p once linked at has here nexts backs = (
    refl,
    has,
    subst (λ n. AreLinked next' back' (Some p) n places) (sym at)
        (links_behind None (Some p) first places once linked here nexts backs),
  )

-- ---- one place less

abbrev pub without_place : Place → List Place → List Place
without_place p [] = []
without_place p (x ∷ places) = cond (is_same x p) places (x ∷ without_place p places)

-- the others are there as before
pub has_without : (p q : Place) (places : List Place) → is_same p q ≡ false
    → has_place (without_place p places) q ≡ has_place places q
has_without p q [] apart = refl
has_without p q (x ∷ places) apart =
    by (is_same x p) refl (has_without p q places apart)
  where
    by : (b : Bool) → is_same x p ≡ b
        → has_place (without_place p places) q ≡ has_place places q
        → has_place (cond b places (x ∷ without_place p places)) q
        ≡ (is_same x q || has_place places q)
    by true e more =
        let is : x ≡ p = same_place x p e in
        let other : is_same x q ≡ false = subst (λ r. is_same r q ≡ false) (sym is) apart in
        ap (λ b. b || has_place places q) (sym other)
    by false e more = ap (λ b. is_same x q || b) more

-- and that one isn't
pub has_gone : (p : Place) (places : List Place) → AreOnce places
    → has_place (without_place p places) p ≡ false
has_gone p [] once = refl
has_gone p (x ∷ places) once = by (is_same x p) refl (has_gone p places once.1)
  where
    by : (b : Bool) → is_same x p ≡ b → has_place (without_place p places) p ≡ false
        → has_place (cond b places (x ∷ without_place p places)) p ≡ false
    by true e more = subst (λ r. has_place places r ≡ false) (same_place x p e) once.0
    by false e more = ap (λ b. b || has_place (without_place p places) p) e ∙ more

pub once_without : (p : Place) (places : List Place) → AreOnce places
    → AreOnce (without_place p places)
once_without p [] once = once
once_without p (x ∷ places) once = by (is_same x p) refl (once_without p places once.1)
  where
    by : (b : Bool) → is_same x p ≡ b → AreOnce (without_place p places)
        → AreOnce (cond b places (x ∷ without_place p places))
    by true e more = once.1
    by false e more =
        let apart : is_same p x ≡ false = same_turned p x ∙ e in
        (has_without p x places apart ∙ once.0, more)

module _ (next back next' back' : Place → Option Place) (p : Place) where
  -- the one before it gets what was behind it, and the one behind it what was before
  pub record Unlinks (places : List Place) : Type 0 where
    pub next_here : (q : Place) → has_place places q ≡ true → back p ≡ Some q → next' q ≡ next p
    pub next_other : (q : Place) → has_place places q ≡ true → (back p ≡ Some q → ⊥)
        → next' q ≡ next q
    pub back_here : (q : Place) → has_place places q ≡ true → next p ≡ Some q → back' q ≡ back p
    pub back_other : (q : Place) → has_place places q ≡ true → (next p ≡ Some q → ⊥)
        → back' q ≡ back q

  less : (x : Place) (places : List Place) → Unlinks (x ∷ places) → Unlinks places
  less x places un =
      record {
        next_here = λ q h. un.next_here q (in_rest x q places h);
        next_other = λ q h. un.next_other q (in_rest x q places h);
        back_here = λ q h. un.back_here q (in_rest x q places h);
        back_other = λ q h. un.back_other q (in_rest x q places h);
      }

  pub links_removed : (before first first' : Option Place) (places : List Place)
      → AreOnce places → ((x : Place) → before ≡ Some x → has_place places x ≡ false)
      → has_place places p ≡ true → AreLinked next back before first places
      → (first ≡ Some p → first' ≡ next p) → ((first ≡ Some p → ⊥) → first' ≡ first)
      → Unlinks places
      → AreLinked next' back' before first' (without_place p places)
  links_removed before first first' [] once out has linked at_p at_other un =
      absurd (true≢false (sym has))
  links_removed before first first' (x ∷ places) once out has (at, has_back, rest) at_p at_other
      un =
      by (is_same x p) refl has
      (λ h. links_removed (Some x) (next x) (next' x) places once.1
      (λ y is. subst (λ r. has_place places r ≡ false) (some_one x y is) once.0)
      h rest
      (λ second. un.next_here x (in_front x places)
      (head_back next back (Some x) (next x) places p rest second))
      (λ further. un.next_other x (in_front x places)
      (λ is. clash (back_in next back (Some x) (next x) places p x rest h further is) once.0))
      (less x places un))
    where
      by : (b : Bool) → is_same x p ≡ b → (b || has_place places p) ≡ true
          → (has_place places p ≡ true
          → AreLinked next' back' (Some x) (next' x) (without_place p places))
          → AreLinked next' back' before first'
          (cond b places (x ∷ without_place p places))
      by true e h more =
          let is : x ≡ p = same_place x p e in
          let first_is : first' ≡ next p = at_p (at ∙ ap Some is) in
          let from_p : AreLinked next back (Some x) (next p) places =
          subst (λ r. AreLinked next back (Some x) (next r) places) is rest in
          let has_before : back p ≡ before = subst (λ r. back r ≡ before) is has_back in
          subst (λ n. AreLinked next' back' before n places) (sym first_is)
          (links_behind next back next' back' (Some x) before (next p) places once.1 from_p
          (λ q is_q. un.back_here q
          (in_rest x q places (head_in next back (Some x) (next p) places q from_p is_q)) is_q
          ∙ has_before)
          (λ q h_q. un.next_other q (in_rest x q places h_q)
          (λ is_q. clash (in_rest x q places h_q) (out q (sym has_before ∙ is_q))))
          (λ q h_q ne. un.back_other q (in_rest x q places h_q) ne))
      by false e h more = (
        at_other not_first ∙ at,
        un.back_other x (in_front x places)
            (λ is. clash (next_in next back (Some x) (next x) places p x rest h is) once.0)
            ∙ has_back,
        more h,
      )
        where
          not_first : first ≡ Some p → ⊥
          not_first is =
              let same : x ≡ p = some_one x p (sym at ∙ is) in
              clash (subst (λ r. is_same x r ≡ true) same (same_itself x)) e
