-- What is computed for a partition, by what is computed for those that it reads.
use Rattle.std.proofs.Common.{◌≡◌, ◌∙◌, ◌⊎◌, inl, inr, Bool, true, false, ◌||◌, List, [], ◌∷◌, ◌++◌, All, Contains, nat_eq, ap, ap₂, refl, sym, subst}
use Rattle.std.proofs.lemmas.Bool.{and_parts, eqb-true, or_cases}
use Rattle.std.proofs.lemmas.List.Elements.{All-append, All-cons, All-contains, All-nil, All-weaker}
use Rattle.sc_lineage.specs.Dependencies.{PlaceData, place}
use Rattle.sc_lineage.specs.ScriptData.{WorkData}
use Rattle.sc_compute.specs.Keeping.{Keeps, Lessens, is_kept, is_known}
use Rattle.sc_compute.specs.Needs.{AreFresh, AreNoted, HasFresh, IsFresh, KnowsJust, LeadsPast, MayBeNoted, Notes, NotesOne, NotesReads, is_among, is_place, places_in, places_known, places_noted}
use Rattle.sc_compute.specs.Reading.{direct_reads}
use Rattle.sc_compute.specs.declared.caching.Caching.{Caching}
use Rattle.sc_compute.specs.declared.kept.KeptStreams.{KeptStreams}

-- two partitions that are one are equal
pub place_same : (a b : PlaceData) → is_place a b ≡ true → a ≡ b
place_same a b same =
    let parts = and_parts (nat_eq a.node b.node) (nat_eq a.partition b.partition) same in
    ap₂ place (eqb-true a.node b.node parts.0) (eqb-true a.partition b.partition parts.1)

-- what can't be both
pub never : (b : Bool) → b ≡ true → b ≡ false → {A : Type 0} → A
never b is not = absurd (is-not b is not)
  where
    is-not : (b : Bool) → b ≡ true → b ≡ false → ⊥
    is-not true is not = cc
    is-not false is not = cc

pub or_none : (a b : Bool) → (a || b) ≡ false → a ≡ false
or_none true b is = is
or_none false b is = refl

-- a fresh partition of one that is read is one of the one that reads it
pub fresh_behind : (work : WorkData) (had : PlaceData → Bool) (at via p : PlaceData)
    → had at ≡ false → Contains (direct_reads work at.node at.partition) via
    → IsFresh work had via p → IsFresh work had at p
fresh_behind work had at via p lacks reads fresh =
    let needed = fresh.computed.needed in
    record {
      cache = fresh.cache;
      computed = record {
        needed = (via ∷ needed.0, (lacks, reads, needed.1));
        lacked = fresh.computed.lacked;
      };
      whole = fresh.whole;
    }

-- for one that is known nothing is fresh
pub nothing_fresh : (work : WorkData) (known noted : List PlaceData) (at : PlaceData)
    → is_among known at ≡ true → HasFresh work known noted at
nothing_fresh work known noted at is p fresh =
    by fresh.computed.needed.0 fresh.computed.needed.1
  where
    by : (path : List PlaceData) → LeadsPast work (is_among known) at path p
        → is_among noted p ≡ true
    by [] same = never (is_among known p) (subst (λ q. is_among known q ≡ true) same is)
        fresh.computed.lacked
    by (via ∷ path) leads = never (is_among known at) is leads.0

-- all that is fresh for a partition is noted: itself, where it may be, and what is fresh for those
-- that it reads
pub all_fresh : (work : WorkData) (known noted after : List PlaceData) (at : PlaceData)
    → All (HasFresh work known noted) (direct_reads work at.node at.partition)
    → ((p : PlaceData) → is_among noted p ≡ true → is_among after p ≡ true)
    → (MayBeNoted work at → is_among after at ≡ true) → HasFresh work known after at
all_fresh work known noted after at reads more here p fresh =
    by fresh.computed.needed.0 fresh.computed.needed.1
  where
    by : (path : List PlaceData) → LeadsPast work (is_among known) at path p
        → is_among after p ≡ true
    by [] same = subst (λ q. is_among after q ≡ true) same (here (subst (MayBeNoted work) (sym same)
        (record { cache = fresh.cache; whole = fresh.whole })))
    by (via ∷ path) leads =
        more p
        (All-contains (HasFresh work known noted) (direct_reads work at.node at.partition) via
        reads leads.1 p
        (record {
          cache = fresh.cache;
          computed = record {
            needed = (path, leads.2);
            lacked = fresh.computed.lacked;
          };
          whole = fresh.whole;
        }))

-- one more was computed
pub so_far_more : (work : WorkData) (at : PlaceData) (first now after : Caching)
    (reads : List PlaceData) (via : PlaceData) → NotesReads work at first now reads
    → is_among (places_known first) at ≡ false
    → Contains (direct_reads work at.node at.partition) via
    → Notes work via now after → NotesReads work at first after (reads ++ via ∷ [])
so_far_more work at first now after reads via far lacks has notes =
    let known = places_known first in
    let same : places_known now ≡ known = ap places_in far.known in
    let P : List PlaceData → Type 0 = λ ks. HasFresh work ks (places_noted after) via in
    record {
      known = notes.known ∙ far.known;
      kept = λ p is. notes.kept p (far.kept p is);
      all = All-append (HasFresh work known (places_noted after)) reads (via ∷ [])
          (All-weaker (HasFresh work known (places_noted now))
          (HasFresh work known (places_noted after))
          (λ q fresh p is. notes.kept p (fresh p is)) reads far.all)
          (All-cons (HasFresh work known (places_noted after)) via []
          (subst P same notes.all) (All-nil (HasFresh work known (places_noted after))));
      only = λ p is. by p same (notes.only p is);
    }
  where
    by : (p : PlaceData) → places_known now ≡ places_known first
        → (is_among (places_noted now) p ≡ true) ⊎ IsFresh work (is_among (places_known now)) via p
        → (is_among (places_noted first) p ≡ true)
        ⊎ IsFresh work (is_among (places_known first)) at p
    by p same (inl before) = far.only p before
    by p same (inr fresh) =
        inr (fresh_behind work (is_among (places_known first)) at via p lacks has
        (subst (λ ks. IsFresh work (is_among ks) via p) same fresh))

-- a partition isn't had itself, all its reads were computed, and it is noted where it may be
pub so_far_done : (work : WorkData) (at : PlaceData) (first now after : Caching)
    → NotesReads work at first now (direct_reads work at.node at.partition)
    → is_among (places_known first) at ≡ false
    → NotesOne work at now after → Notes work at first after
so_far_done work at first now after far lacks one = record {
  known = one.known ∙ far.known;
  kept = λ p is. one.kept p (far.kept p is);
  all = all_fresh work (places_known first) (places_noted now) (places_noted after) at far.all
      one.kept one.here;
  only = λ p is. by p (one.only p is);
}
  where
    by : (p : PlaceData)
        → (is_among (places_noted now) p ≡ true) ⊎ ((p ≡ at) × MayBeNoted work at)
        → (is_among (places_noted first) p ≡ true)
        ⊎ IsFresh work (is_among (places_known first)) at p
    by p (inl before) = far.only p before
    by p (inr own) =
        inr (subst (IsFresh work (is_among (places_known first)) at) (sym own.0)
        (record {
          cache = own.1.cache;
          computed = record { needed = ([], refl); lacked = lacks };
          whole = own.1.whole;
        }))

-- What is kept, and what was noted for it.
module _ (work : WorkData) (kept : KeptStreams) (c : Caching) (noted : AreNoted work kept c) where
  -- less is kept
  pub noted_less : (after : KeptStreams) → Lessens kept after → AreNoted work after c
  noted_less after less from is = noted from (less.fewer from is)

  -- one more is kept, for which all was noted
  pub noted_more : (after : KeptStreams) (d : Caching) (at : PlaceData) → Keeps at kept after
      → NotesOne work at c d → HasFresh work (places_known d) (places_noted d) at
      → AreNoted work after d
  noted_more after d at keeps one all from is = by (keeps.one_more from is)
    where
      by : (is_kept kept from ≡ true) ⊎ (from ≡ at)
          → HasFresh work (places_known d) (places_noted d) from
      by (inl before) = λ p fresh. one.kept p
          (noted from before p (subst (λ ks. IsFresh work (is_among ks) from p)
          (ap places_in one.known) fresh))
      by (inr same) =
          subst (HasFresh work (places_known d) (places_noted d)) (sym same) all

  -- a partition is had, so that nothing is to be noted for it
  pub had_notes : (at : PlaceData) → KnowsJust kept c.known.now
      → (is_known kept at || is_kept kept at) ≡ true → Notes work at c c
  had_notes at just had = record {
    known = refl;
    kept = λ p is. is;
    all = by (or_cases (is_known kept at) (is_kept kept at) had);
    only = λ p is. inl is;
  }
    where
      by : (is_known kept at ≡ true) ⊎ (is_kept kept at ≡ true)
          → HasFresh work (places_known c) (places_noted c) at
      by (inl known) =
          nothing_fresh work (places_known c) (places_noted c) at (sym (just at) ∙ known)
      by (inr again) = noted at again

-- a partition isn't known
pub known_among : (kept : KeptStreams) (c : Caching) (at : PlaceData)
    → KnowsJust kept c.known.now → is_known kept at ≡ false
    → is_among (places_known c) at ≡ false
known_among kept c at just not = sym (just at) ∙ not

-- a partition isn't had
pub lacks_known : (kept : KeptStreams) (c : Caching) (at : PlaceData)
    → KnowsJust kept c.known.now → (is_known kept at || is_kept kept at) ≡ false
    → is_among (places_known c) at ≡ false
lacks_known kept c at just not =
    sym (just at) ∙ or_none (is_known kept at) (is_kept kept at) not

-- what was noted from nothing on is what is fresh
pub fresh_from_none : (work : WorkData) (at : PlaceData) (first after : Caching)
    → places_noted first ≡ [] → Notes work at first after
    → AreFresh work (places_known first) at (places_noted after)
fresh_from_none work at first after none notes p = (λ is. by (notes.only p is), notes.all p)
  where
    by : (is_among (places_noted first) p ≡ true)
        ⊎ IsFresh work (is_among (places_known first)) at p
        → IsFresh work (is_among (places_known first)) at p
    by (inl before) = never true refl (sym (subst (λ ps. is_among ps p ≡ true) none before))
    by (inr fresh) = fresh
