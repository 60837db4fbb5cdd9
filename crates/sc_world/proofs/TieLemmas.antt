-- What keeps the tracker tied to the stores.
use Rattle.std.proofs.Common.{◌≡◌, ◌≢◌, ◌⊎◌, inl, inr, ℕ, zero, suc, ◌≤◌, ◌==◌, Bool, true, false, List, [], ◌∷◌, Option, Some, None, IfSome, IsSomeAnd, option_map, slice_get, refl, ap, sym, subst, ◌∙◌, arith, rules, true≢false}
use Rattle.std.proofs.lemmas.Bool.Decides.{nat_tests}
use Rattle.sc_base.specs.Lists.{at_or}
use Rattle.sc_ids.specs.Changes.{change_at}
use Rattle.sc_ids.specs.declared.blocks.BlockId.{BlockId}
use Rattle.sc_ids.specs.declared.blocks.Loc.{Loc}
use Rattle.sc_ids.proofs.ChangeLemmas.{slice_get_change_other, slice_get_change_same}
use Rattle.sc_tracker.specs.Outputs.{forgotten_on, is_on, never, output_in, placed}
use Rattle.sc_tracker.specs.TrackerData.{TrackerData, output_of, outputs_under, trust_of}
use Rattle.sc_tracker.specs.Tracking.{after_executor_lost, after_gone, registered}
use Rattle.sc_tracker.specs.declared.trust.Trust.{Trust}
use Rattle.sc_tracker.specs.Trust.{is_live, is_newer, lost_at, seen_at, trust_at}
use Rattle.sc_tracker.specs.declared.outputs.Output.{Output}
use Rattle.sc_tracker.proofs.BlockLemmas.{forgets_on_one, registers_one, under_changed}
use Rattle.sc_store.specs.BlockData.{BlockData, same_block}
use Rattle.sc_store.specs.StoreData as held
use Rattle.sc_store.specs.StoreData.{StoreData, with_cache}
use Rattle.sc_store.specs.Storing.{Puts, Wipes}
use Rattle.sc_store.specs.declared.answers.WipeAnswer.{WipeAnswer}
use Rattle.sc_store.specs.declared.answers.WipeAnswer.TheVariants as wipes
use Rattle.sc_world.specs.Ties.{AreLater, AreTied, StandsAt, StandsIn, generation_at}

-- ---- stores later on

-- one store changed
pub one_later :
    (stores after : List StoreData) (exec : ℕ) (s s' : StoreData)
    → slice_get stores exec ≡ Some s → after ≡ change_at stores exec (λ _. s')
    → ((b : BlockId) (loc : Loc) → StandsIn s b loc → StandsIn s' b loc)
    → s.generation ≤ s'.generation → AreLater stores after
one_later stores after exec s s' there is stands grows =
    rw is (record {
      stands = λ b loc h. kept b loc (exec == loc.exec) refl h;
      reached = λ e. up e (exec == e) refl;
    })
  where
    next : List StoreData
    next = change_at stores exec (λ _. s')

    here : slice_get next exec ≡ Some s'
    here = slice_get_change_same stores exec (λ _. s') ∙ ap (λ o. option_map (λ _. s') o) there

    kept : (b : BlockId) (loc : Loc) (x : Bool) → (exec == loc.exec) ≡ x
        → StandsAt stores b loc → StandsAt next b loc
    kept b loc true e h =
        let same : exec ≡ loc.exec = grind (arith, nat_tests, e) in
        let was : IsSomeAnd (Some s) (λ s. StandsIn s b loc) =
        subst (λ o. IsSomeAnd o (λ s. StandsIn s b loc)) there
        (subst (λ (k : ℕ). IsSomeAnd (slice_get stores k) (λ s. StandsIn s b loc)) (sym same)
        h) in
        subst (λ (k : ℕ). IsSomeAnd (slice_get next k) (λ s. StandsIn s b loc)) same
        (subst (λ o. IsSomeAnd o (λ s. StandsIn s b loc)) (sym here) (stands b loc was))
    kept b loc false e h =
        subst (λ o. IsSomeAnd o (λ s. StandsIn s b loc))
        (sym (slice_get_change_other stores exec loc.exec (λ _. s')
        (λ is. grind (arith, nat_tests, e, is)))) h

    up : (e : ℕ) (x : Bool) → (exec == e) ≡ x → generation_at stores e ≤ generation_at next e
    up e true q =
        let same : exec ≡ e = grind (arith, nat_tests, q) in
        subst (λ (k : ℕ). generation_at stores k ≤ generation_at next k) same
        (rw (there, here) grows)
    up e false q =
        rw (slice_get_change_other stores exec e (λ _. s') (λ is. grind (arith, nat_tests, q, is)))
        (omega arith)

-- a block's name is its numbers
pub name_is : (a b : BlockId) → same_block a b ≡ true → a ≡ b
name_is a b e =
    ap (λ (n : ℕ). name n a.shuffle.side a.map) node
    ∙ ap (λ (s : ℕ). name b.shuffle.node s a.map) side
    ∙ ap (λ (m : ℕ). name b.shuffle.node b.shuffle.side m) map
  where
    name : ℕ → ℕ → ℕ → BlockId
    name node side map = record { shuffle = record { node = node; side = side }; map = map }

    node : a.shuffle.node ≡ b.shuffle.node
    node = grind (arith, nat_tests, e)

    side : a.shuffle.side ≡ b.shuffle.side
    side = grind (arith, nat_tests, e)

    map : a.map ≡ b.map
    map = grind (arith, nat_tests, e)

pub differ : (a b : BlockId) → same_block a b ≡ false → b ≢ a
differ a b e is =
    true≢false (sym (itself a) ∙ subst (λ n. same_block a n ≡ false) is e)
  where
    itself : (a : BlockId) → same_block a a ≡ true
    itself a = grind (arith, nat_tests)

-- a put block stands, and so does all that stood
put_output :
    (before after : StoreData) (block : BlockData) (b : BlockId) → Puts before block after
    → held.output_in before b ≢ None → held.output_in after b ≢ None
put_output before after block b puts was = by (same_block block.id b) refl
  where
    by : (x : Bool) → same_block block.id b ≡ x → held.output_in after b ≢ None
    by true e = λ none. search (
      rules,
      sym (subst (λ n. held.output_in after n ≡ Some block.output) (name_is block.id b e)
          puts.here)
          ∙ none,
    )
    by false e = λ none. was (sym (puts.others b e) ∙ none)

pub put_stands :
    (before after : StoreData) (block : BlockData) → Puts before block after
    → (b : BlockId) (loc : Loc) → StandsIn before b loc → StandsIn after b loc
put_stands before after block puts b loc h =
    let same : after.generation ≡ before.generation =
    ap (λ (s : StoreData). s.generation) puts.rest in
    record {
      reached = rw same h.reached;
      there = λ le. put_output before after block b puts (h.there (rw same at le));
    }

pub put_here :
    (before after : StoreData) (block : BlockData) (loc : Loc) → Puts before block after
    → loc.generation ≡ before.generation → StandsIn after block.id loc
put_here before after block loc puts is =
    let same : after.generation ≡ before.generation =
    ap (λ (s : StoreData). s.generation) puts.rest in
    record {
      reached = rw (same, is) (omega arith);
      there = λ le none. search (rules, sym puts.here ∙ none);
    }

-- all stands with another cache
pub cached_stands :
    (s next : StoreData) → next ≡ with_cache s next.cache
    → (b : BlockId) (loc : Loc) → StandsIn s b loc → StandsIn next b loc
cached_stands s next is b loc h =
    subst (λ x. StandsIn x b loc) (sym is) (record { reached = h.reached; there = h.there })

-- a wipe leaves nothing that isn't past its generation
pub wiped_stands :
    (before after : StoreData) (number : ℕ) (answer : WipeAnswer) → Wipes before number answer after
    → (b : BlockId) (loc : Loc) → StandsIn before b loc → StandsIn after b loc
wiped_stands before after number (wipes.Wiped generation) (lt, is, empty) b loc h =
    let le : loc.generation ≤ before.generation = h.reached in
    rw empty (record {
      reached = omega (arith, le, lt);
      there = λ past. absurd (omega (arith, le, lt, past));
    })
wiped_stands before after number (wipes.Stale generation) (ge, is, same) b loc h = rw same h

pub wiped_grows :
    (before after : StoreData) (number : ℕ) (answer : WipeAnswer) → Wipes before number answer after
    → before.generation ≤ after.generation
wiped_grows before after number (wipes.Wiped generation) (lt, is, empty) =
    rw empty (omega (arith, lt))
wiped_grows before after number (wipes.Stale generation) (ge, is, same) = rw same (omega arith)

-- ---- the tracker stays tied

stood : (before after : List StoreData) (b : BlockId) (o : Option Loc) → AreLater before after
    → IfSome o (StandsAt before b) → IfSome o (StandsAt after b)
stood before after b None later h = tt
stood before after b (Some loc) later h = later.stands b loc h

pub later_tied : (before after : List StoreData) → AreLater before after
    → (t : _) → AreTied before t → AreTied after t
later_tied before after later t tied =
    record {
      last = λ b. stood before after b (output_of t b).last later (tied.last b);
      seen = λ exec. up exec;
    }
  where
    up : (exec : ℕ) → (trust_of t exec).seen ≤ generation_at after exec
    up exec =
        let a : (trust_of t exec).seen ≤ generation_at before exec = tied.seen exec in
        let b : generation_at before exec ≤ generation_at after exec = later.reached exec in
        omega (arith, a, b)

-- where an output was last, once one was registered
changed_or_not : {A : Type 0} (xs : List A) (i : ℕ) (f : A → A) (d : A)
    → (at_or (change_at xs i f) i d ≡ at_or xs i d)
    ⊎ (at_or (change_at xs i f) i d ≡ f (at_or xs i d))
changed_or_not [] i f d = inl refl
changed_or_not (x ∷ xs) zero f d = inr refl
changed_or_not (x ∷ xs) (suc i) f d = changed_or_not xs i f d

-- what is known of a block whose output was registered, where there may be no room for it
pub same_or_placed : (t : TrackerData) (block : BlockId) (loc : Loc)
    → (output_of (registered t block loc) block ≡ output_of t block)
    ⊎ (output_of (registered t block loc) block ≡ placed loc t.epoch (output_of t block))
same_or_placed t block loc = by (changed_or_not outputs block.map (placed loc t.epoch) never)
  where
    outputs : List Output
    outputs = outputs_under t.shuffles block.shuffle

    is : output_of (registered t block loc) block
        ≡ at_or (change_at outputs block.map (placed loc t.epoch)) block.map never
    is = ap (λ os. output_in os block.map)
        (under_changed t.shuffles block.shuffle (λ os. change_at os block.map (placed loc t.epoch))
        refl)

    by : (at_or (change_at outputs block.map (placed loc t.epoch)) block.map never
        ≡ at_or outputs block.map never)
        ⊎ (at_or (change_at outputs block.map (placed loc t.epoch)) block.map never
        ≡ placed loc t.epoch (at_or outputs block.map never))
        → (output_of (registered t block loc) block ≡ output_of t block)
        ⊎ (output_of (registered t block loc) block ≡ placed loc t.epoch (output_of t block))
    by (inl e) = inl (is ∙ e)
    by (inr e) = inr (is ∙ e)

pub registered_tied : (stores : List StoreData) (t : TrackerData) (block : BlockId) (loc : Loc)
    → AreTied stores t → StandsAt stores block loc → AreTied stores (registered t block loc)
registered_tied stores t block loc tied stands =
    record {
      last = λ b. by b (same_block block b) refl;
      seen = tied.seen;
    }
  where
    own : IfSome (output_of (registered t block loc) block).last (StandsAt stores block)
    own = one (same_or_placed t block loc)
      where
        one : (output_of (registered t block loc) block ≡ output_of t block)
            ⊎ (output_of (registered t block loc) block ≡ placed loc t.epoch (output_of t block))
            → IfSome (output_of (registered t block loc) block).last (StandsAt stores block)
        one (inl e) = rw e (tied.last block)
        one (inr e) = rw e stands

    by : (b : BlockId) (x : Bool) → same_block block b ≡ x
        → IfSome (output_of (registered t block loc) b).last (StandsAt stores b)
    by b true e =
        subst (λ n. IfSome (output_of (registered t block loc) n).last (StandsAt stores n))
        (name_is block b e) own
    by b false e = rw ((registers_one t block loc).1 b (differ block b e)) (tied.last b)

-- an event forgets no last place
forgotten_last : (exec : ℕ) (o : Output) → (forgotten_on exec o).last ≡ o.last
forgotten_last exec o = by (is_on exec o.here) refl
  where
    by : (x : Bool) → is_on exec o.here ≡ x → (forgotten_on exec o).last ≡ o.last
    by true e = rw e refl
    by false e = rw e refl

seen_after : (trust : List Trust) (exec e found epoch : ℕ)
    → ((trust_at (change_at trust exec (seen_at found epoch)) e).seen ≡ (trust_at trust e).seen)
    ⊎ ((exec ≡ e) × ((trust_at (change_at trust exec (seen_at found epoch)) e).seen ≡ found))
seen_after [] exec e found epoch = inl refl
seen_after (x ∷ xs) zero zero found epoch = inr (refl, refl)
seen_after (x ∷ xs) zero (suc e) found epoch = inl refl
seen_after (x ∷ xs) (suc exec) zero found epoch = inl refl
seen_after (x ∷ xs) (suc exec) (suc e) found epoch = more (seen_after xs exec e found epoch)
  where
    more : ((trust_at (change_at xs exec (seen_at found epoch)) e).seen ≡ (trust_at xs e).seen)
        ⊎ ((exec ≡ e) × ((trust_at (change_at xs exec (seen_at found epoch)) e).seen ≡ found))
        → ((trust_at (change_at xs exec (seen_at found epoch)) e).seen ≡ (trust_at xs e).seen)
        ⊎ ((suc exec ≡ suc e)
        × ((trust_at (change_at xs exec (seen_at found epoch)) e).seen ≡ found))
    more (inl h) = inl h
    more (inr (is, h)) = inr (ap suc is, h)

seen_lost : (trust : List Trust) (exec e epoch : ℕ)
    → (trust_at (change_at trust exec (lost_at epoch)) e).seen ≡ (trust_at trust e).seen
seen_lost [] exec e epoch = refl
seen_lost (x ∷ xs) zero zero epoch = refl
seen_lost (x ∷ xs) zero (suc e) epoch = refl
seen_lost (x ∷ xs) (suc exec) zero epoch = refl
seen_lost (x ∷ xs) (suc exec) (suc e) epoch = seen_lost xs exec e epoch

pub gone_tied : (stores : List StoreData) (t : TrackerData) (exec found : ℕ)
    → AreTied stores t → found ≤ generation_at stores exec
    → AreTied stores (after_gone t exec found)
gone_tied stores t exec found tied le = by (is_newer (slice_get t.trust exec) found) refl
  where
    by : (x : Bool) → is_newer (slice_get t.trust exec) found ≡ x
        → AreTied stores (after_gone t exec found)
    by false e = rw e tied
    by true e =
        record {
          last = λ b. rw ((forgets_on_one t exec b).0 found e, forgotten_last exec (output_of t b))
              (tied.last b);
          seen = λ k. rw e (up k (seen_after t.trust exec k found t.epoch));
        }
      where
        up : (k : ℕ)
            → ((trust_at (change_at t.trust exec (seen_at found t.epoch)) k).seen
            ≡ (trust_at t.trust k).seen)
            ⊎ ((exec ≡ k)
            × ((trust_at (change_at t.trust exec (seen_at found t.epoch)) k).seen ≡ found))
            → (trust_at (change_at t.trust exec (seen_at found t.epoch)) k).seen
            ≤ generation_at stores k
        up k (inl h) = rw h (tied.seen k)
        up k (inr (is, h)) = rw h (subst (λ (n : ℕ). found ≤ generation_at stores n) is le)

-- an executor that is told lost makes nothing be known that isn't so
pub lost_tied : (stores : List StoreData) (t : TrackerData) (exec : ℕ) → AreTied stores t
    → AreTied stores (after_executor_lost t exec)
lost_tied stores t exec tied = by (is_live (slice_get t.trust exec)) refl
  where
    by : (x : Bool) → is_live (slice_get t.trust exec) ≡ x
        → AreTied stores (after_executor_lost t exec)
    by false e = rw e tied
    by true e =
        record {
          last = λ b. rw ((forgets_on_one t exec b).1 e, forgotten_last exec (output_of t b))
              (tied.last b);
          seen = λ k. rw (e, seen_lost t.trust exec k t.epoch) (tied.seen k);
        }
