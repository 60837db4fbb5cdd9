-- What is asked for, where some partitions are had.
use Rattle.std.proofs.Common.{◌≡◌, ◌∙◌, ℕ, suc, ◌+◌, ◌*◌, ◌^◌, ◌<◌, ◌⊎◌, inl, inr, Bool, true, false, ◌&&◌, ◌||◌, List, [], ◌∷◌, ◌++◌, All, Contains, length, map, drop, get_or, nat_eq, true≢false, ap, ap₂, refl, sym, subst, arith}
use Rattle.std.proofs.Math.Seq.{drop-cons}
use Rattle.std.proofs.lemmas.Cmp.{ranked}
use Rattle.std.proofs.lemmas.List.Elements.{All-cons, All-contains, All-contains_itself, All-head, All-map, All-nil, All-tail, All-weaker, Contains-append_cases, Contains-append_right, Contains-push_cases}
use Rattle.std.proofs.lemmas.List.Folds.{list_any-append}
use Rattle.std.specs.BTreeSet.{insert_key}
use Rattle.std.specs.Cmp.{unsigned_Decides}
use Rattle.std.specs.Ordering.{match_ordering, nat_cmp}
use Rattle.std.specs.declared.cmp.Ordering.{Ordering}
use Rattle.std.specs.declared.cmp.Ordering.TheVariants.{Less, Equal, Greater}
use Rattle.sc_lineage.specs.Dependencies.{PlaceData, place}
use Rattle.sc_lineage.specs.NodeData.{cache_node}
use Rattle.sc_lineage.specs.ScriptData.{IsSoundScript, WorkData}
use Rattle.sc_lineage.specs.Views.{node_data_of, place_data_of}
use Rattle.sc_lineage.specs.declared.nodes.Node.{Node}
use Rattle.sc_lineage.specs.declared.nodes.Node.TheVariants as nodes
use Rattle.sc_lineage.specs.declared.dependencies.Place.{Place}
use Rattle.sc_lineage.proofs.PlaceLemmas.{slice_get-at_or}
use Rattle.sc_compute.specs.Asking.{AreAllGiven, AreOfCaches, AsksFor, AsksPast, IsBehind, IsTakenFor, place_number, place_of_number}
use Rattle.sc_compute.specs.Caching.{is_cache}
use Rattle.sc_compute.specs.Needs.{LeadsPast, Needs, is_among, is_place}
use Rattle.sc_compute.specs.Reading.{direct_reads}
use Rattle.sc_compute.specs.Stages.{local_count, node_at}
use Rattle.sc_compute.specs.declared.asking.Asking.{Asking}
use Rattle.sc_compute.proofs.AskingLemmas.{all-inserted, node_of_number, partition_of_number}
use Rattle.sc_compute.proofs.DirectLemmas.{before_direct, found_all, within_direct}
use Rattle.sc_compute.proofs.NeedsLemmas.{never, place_same}
use Rattle.sc_compute.proofs.NodeLemmas.{IsNode, count_fits}

-- a partition is found under its number
pub number_back : (node p number : ℕ) → p < 2 ^ 32 → node * 2 ^ 32 + p ≡ number
    → place_of_number number ≡ place node p
number_back node p number small is =
    ap₂ place (node_of_number node p number small is) (partition_of_number node p number small is)

-- ---- lists

module _ {A : Type 0} where
  first_in : (x : A) (xs : List A) → Contains (x ∷ xs) x
  first_in x xs = (0, omega arith, refl)

  later_in : (y : A) (xs : List A) (x : A) → Contains xs x → Contains (y ∷ xs) x
  later_in y xs x is = Contains-append_right (y ∷ []) xs x is

  none_in : (x : A) → Contains [] x → ⊥
  none_in x is = let below = is.1 in omega (arith, below)

  in_one : (y x : A) → Contains (y ∷ []) x → y ≡ x
  in_one y x is =
      All-contains (λ z. y ≡ z) (y ∷ []) x
      (All-cons (λ z. y ≡ z) y [] refl (All-nil (λ z. y ≡ z))) is

  in_either : (y : A) (xs : List A) (x : A) → Contains (y ∷ xs) x → (y ≡ x) ⊎ Contains xs x
  in_either y xs x is = by (Contains-append_cases (y ∷ []) xs x is)
    where
      by : Contains (y ∷ []) x ⊎ Contains xs x → (y ≡ x) ⊎ Contains xs x
      by (inl one) = inl (in_one y x one)
      by (inr later) = inr later

-- ---- keys

-- a key that is put in is there
pub key_put : (k : ℕ) (ks : List ℕ) → Contains (insert_key nat_cmp ks k) k
key_put k [] = first_in k []
key_put k (x ∷ xs) = here (nat_cmp k x) refl (key_put k xs)
  where
    here : (r : Ordering) → r ≡ nat_cmp k x → Contains (insert_key nat_cmp xs k) k
        → Contains (match_ordering r (k ∷ x ∷ xs) (x ∷ xs) (x ∷ insert_key nat_cmp xs k)) k
    here Less is behind = first_in k (x ∷ xs)
    here Equal is behind =
        subst (λ y. Contains (y ∷ xs) k) (ranked k x Equal is) (first_in k xs)
    here Greater is behind = later_in x (insert_key nat_cmp xs k) k behind

-- and each other one stays
pub key_kept : (k y : ℕ) (ks : List ℕ) → Contains ks y → Contains (insert_key nat_cmp ks k) y
key_kept k y [] is = absurd (none_in y is)
key_kept k y (x ∷ xs) is = here (nat_cmp k x) (key_kept k y xs) (in_either x xs y is)
  where
    here : (r : Ordering) → (Contains xs y → Contains (insert_key nat_cmp xs k) y)
        → (x ≡ y) ⊎ Contains xs y
        → Contains (match_ordering r (k ∷ x ∷ xs) (x ∷ xs) (x ∷ insert_key nat_cmp xs k)) y
    here Less behind which = later_in k (x ∷ xs) y is
    here Equal behind which = is
    here Greater behind (inl one) =
        subst (λ z. Contains (x ∷ insert_key nat_cmp xs k) z) one
        (first_in x (insert_key nat_cmp xs k))
    here Greater behind (inr later) =
        later_in x (insert_key nat_cmp xs k) y (behind later)

-- keys, and beside them the numbers of partitions
abbrev pub with_numbers : List ℕ → List Place → List ℕ
with_numbers ks [] = ks
with_numbers ks (q ∷ qs) = with_numbers (insert_key nat_cmp ks (place_number q)) qs

numbers_kept : (ks : List ℕ) (qs : List Place) (y : ℕ) → Contains ks y
    → Contains (with_numbers ks qs) y
numbers_kept ks [] y is = is
numbers_kept ks (q ∷ qs) y is =
    numbers_kept (insert_key nat_cmp ks (place_number q)) qs y
    (key_kept (place_number q) y ks is)

numbers_put : (ks : List ℕ) (qs : List Place)
    → All (λ q. Contains (with_numbers ks qs) (place_number q)) qs
numbers_put ks [] = All-nil (λ q. Contains ks (place_number q))
numbers_put ks (q ∷ qs) =
    let more = insert_key nat_cmp ks (place_number q) in
    All-cons (λ r. Contains (with_numbers more qs) (place_number r)) q qs
    (numbers_kept more qs (place_number q) (key_put (place_number q) ks))
    (numbers_put more qs)

numbers_all : (P : ℕ → Type 0) (ks : List ℕ) (qs : List Place) → All P ks
    → All (λ q. P (place_number q)) qs → All P (with_numbers ks qs)
numbers_all P ks [] all put = all
numbers_all P ks (q ∷ qs) all put =
    numbers_all P (insert_key nat_cmp ks (place_number q)) qs
    (all-inserted P (place_number q) (All-head (λ r. P (place_number r)) q qs put) ks all)
    (All-tail (λ r. P (place_number r)) q qs put)

-- one more of the partitions, as at a step of a loop
pub numbers_next : (ks : List ℕ) (qs : List Place) (i : ℕ) (d : Place) → i < length qs
    → with_numbers ks (drop i qs)
    ≡ with_numbers (insert_key nat_cmp ks (place_number (get_or qs i d))) (drop (i + 1) qs)
numbers_next ks qs i d within =
    let next : suc i ≡ i + 1 = omega arith in
    ap (with_numbers ks) (drop-cons qs i d within)
    ∙ ap (λ k. with_numbers ks (get_or qs i d ∷ drop k qs)) next

-- ---- what is needed

-- what one reads that is needed and isn't had is needed too
needed_on : (work : WorkData) (had : PlaceData → Bool) (from one via : PlaceData)
    → Needs work had from one → had one ≡ false
    → Contains (direct_reads work one.node one.partition) via → Needs work had from via
needed_on work had from one via needs lacks reads = on needs.0 from needs.1
  where
    on : (path : List PlaceData) (at : PlaceData) → LeadsPast work had at path one
        → Needs work had at via
    on [] at same =
        let P : PlaceData → Type 0 = λ q. Needs work had q via in
        subst P (sym same) (via ∷ [], (lacks, reads, refl))
    on (q ∷ path) at leads =
        let rest = on path q leads.2 in (q ∷ rest.0, (leads.0, leads.1, rest.1))

-- what is needed for a partition that is there is one of the work's nodes
pub needed_known : (work : WorkData) (had : PlaceData → Bool) (from at : PlaceData)
    → IsSoundScript work.script → from.node < length work.script.nodes
    → from.partition < local_count work from.node → Needs work had from at
    → at.node < length work.script.nodes
needed_known work had from at sound known within needs = by needs.0 from known within needs.1
  where
    by : (path : List PlaceData) (q : PlaceData) → q.node < length work.script.nodes
        → q.partition < local_count work q.node → LeadsPast work had q path at
        → at.node < length work.script.nodes
    by [] q known within same = subst (λ r. r.node < length work.script.nodes) same known
    by (via ∷ path) q known within leads =
        let reads = direct_reads work q.node q.partition in
        let before = All-contains (λ r. r.node < q.node) reads via
        (before_direct work sound q.node q.partition known within) leads.1 in
        by path via (omega (arith, before, known))
        (All-contains (λ r. r.partition < local_count work r.node) reads via
        (within_direct work sound q.node q.partition known within) leads.1)
        leads.2

-- partitions that are read have small numbers
small_direct : (work : WorkData) (k p : ℕ) → IsSoundScript work.script
    → k < length work.script.nodes → p < local_count work k
    → All (λ q. q.partition < 2 ^ 32) (direct_reads work k p)
small_direct work k p sound known within =
    let reads = direct_reads work k p in
    All-weaker (Contains reads) (λ q. q.partition < 2 ^ 32)
    (λ q is.
    let before = All-contains (λ r. r.node < k) reads q
    (before_direct work sound k p known within) is in
    let below = All-contains (λ r. r.partition < local_count work r.node) reads q
    (within_direct work sound k p known within) is in
    let there : q.node < length work.script.nodes = omega (arith, before, known) in
    let node : IsNode work q.node (node_at work q.node) = record {
      sound = sound;
      known = there;
      is = slice_get-at_or work.script.nodes q.node (cache_node 0) there;
    } in
    let fits = count_fits node in
    omega (arith, below, fits))
    reads (All-contains_itself reads)

-- ---- what is asked for

both_of : (Q R : Place → Type 0) (qs : List Place) → All Q qs → All R qs
    → All (λ q. Q q × R q) qs
both_of Q R [] q r = All-nil (λ x. Q x × R x)
both_of Q R (x ∷ xs) q r =
    All-cons (λ y. Q y × R y) x xs (All-head Q x xs q, All-head R x xs r)
    (both_of Q R xs (All-tail Q x xs q) (All-tail R x xs r))

abbrev IsSmall : Place → Type 0
IsSmall q = q.partition < 2 ^ 32

-- at first it is the partition itself
pub asks_first : (work : WorkData) (had : PlaceData → Bool) (from : PlaceData)
    (given : List PlaceData) (asking : Asking) (number : ℕ) → place_of_number number ≡ from
    → asking.left.keys ≡ number ∷ [] → AsksFor work had from given asking
asks_first work had from given asking number is keys =
    let P : ℕ → Type 0 = λ n. Needs work had from (place_of_number n) in
    record {
      only = subst (All P) (sym keys)
          (All-cons P number [] ([], sym is) (All-nil P));
      all = λ at taken. inr (
        number,
        subst (λ ks. Contains ks number) (sym keys) (first_in number []),
        subst (λ q. Needs work had q at) (sym is) taken.needed,
      );
    }

module _ (work : WorkData) (had : PlaceData → Bool) (from : PlaceData) (given : List PlaceData)
    (before after : Asking) where
  -- the greatest is taken out
  pub asks_popped : (number : ℕ) (one : PlaceData)
      → before.left.keys ≡ after.left.keys ++ number ∷ [] → one ≡ place_of_number number
      → AsksFor work had from given before → AsksPast work had from given after one
  asks_popped number one removal is asks =
      let P : ℕ → Type 0 = λ n. Needs work had from (place_of_number n) in
      let whole : All P (after.left.keys ++ number ∷ []) = subst (All P) removal asks.only in
      record {
        needed = subst (Needs work had from) (sym is)
            (All-contains P (after.left.keys ++ number ∷ []) number whole
            (Contains-append_right after.left.keys (number ∷ []) number (first_in number [])));
        only = front after.left.keys whole;
        all = λ at taken. by at (asks.all at taken);
      }
    where
      front : (ks : List ℕ)
          → All (λ n. Needs work had from (place_of_number n)) (ks ++ number ∷ [])
          → All (λ n. Needs work had from (place_of_number n)) ks
      front [] all = All-nil (λ n. Needs work had from (place_of_number n))
      front (k ∷ ks) all =
          let P : ℕ → Type 0 = λ n. Needs work had from (place_of_number n) in
          All-cons P k ks (All-head P k (ks ++ number ∷ []) all)
          (front ks (All-tail P k (ks ++ number ∷ []) all))

      which : (at : PlaceData) (k : ℕ) → Needs work had (place_of_number k) at
          → Contains after.left.keys k ⊎ (number ≡ k)
          → (is_among given at ≡ true) ⊎ IsBehind work had after.left.keys at
          ⊎ Needs work had one at
      which at k needs (inl left) = inr (inl (k, left, needs))
      which at k needs (inr same) =
          inr (inr (subst (λ q. Needs work had q at)
          (ap place_of_number (sym same) ∙ sym is) needs))

      by : (at : PlaceData) → (is_among given at ≡ true) ⊎ IsBehind work had before.left.keys at
          → (is_among given at ≡ true) ⊎ IsBehind work had after.left.keys at
          ⊎ Needs work had one at
      by at (inl known) = inl known
      by at (inr behind) =
          which at behind.0 behind.2
          (Contains-push_cases after.left.keys number behind.0
          (subst (λ ks. Contains ks behind.0) removal behind.1))

  abbrev P : ℕ → Type 0
  P n = Needs work had from (place_of_number n)

  abbrev reads_of : PlaceData → List PlaceData
  reads_of one = direct_reads work one.node one.partition

  abbrev IsPut : PlaceData → Type 0
  IsPut q = (n : ℕ) × Contains after.left.keys n × (place_of_number n ≡ q)

  -- what a partition reads that isn't had is left behind it
  pub asks_behind : (one : PlaceData) (places : List Place) → IsSoundScript work.script
      → one.node < length work.script.nodes → one.partition < local_count work one.node
      → map place_data_of places ≡ direct_reads work one.node one.partition
      → after.left.keys ≡ with_numbers before.left.keys places → had one ≡ false
      → AsksPast work had from given before one → AsksFor work had from given after
  asks_behind one places sound known within read keys lacks asks = record {
    only = subst (All P) (sym keys)
        (numbers_all P before.left.keys places asks.only
        (All-weaker (λ q. Needs work had from (place_data_of q) × IsSmall q)
        (λ q. P (place_number q))
        (λ q both. subst (Needs work had from) (sym (back q both.1)) both.0)
        places (both_of (λ q. Needs work had from (place_data_of q)) IsSmall places needed small)));
    all = λ at taken. by at taken (asks.all at taken);
  }
    where
      back : (q : Place) → IsSmall q → place_of_number (place_number q) ≡ place_data_of q
      back q small = number_back q.node q.partition (place_number q) small refl

      needed : All (λ q. Needs work had from (place_data_of q)) places
      needed = found_all (Needs work had from) places (reads_of one) read
          (All-weaker (Contains (reads_of one)) (Needs work had from)
          (λ via is. needed_on work had from one via asks.needed lacks is)
          (reads_of one) (All-contains_itself (reads_of one)))

      small : All IsSmall places
      small = found_all (λ q. q.partition < 2 ^ 32) places (reads_of one) read
          (small_direct work one.node one.partition sound known within)

      put : All IsPut (reads_of one)
      put = subst (All IsPut) read
          (All-map IsPut place_data_of places
          (All-weaker
          (λ q. Contains (with_numbers before.left.keys places) (place_number q) × IsSmall q)
          (λ q. IsPut (place_data_of q))
          (λ q both. (
            place_number q,
            subst (λ ks. Contains ks (place_number q)) (sym keys) both.0,
            back q both.1,
          ))
          places
          (both_of (λ q. Contains (with_numbers before.left.keys places) (place_number q)) IsSmall
          places (numbers_put before.left.keys places) small)))

      on : (at : PlaceData) → had at ≡ true → (path : List PlaceData)
          → LeadsPast work had one path at → IsBehind work had after.left.keys at
      on at there [] same = never (had at) there (subst (λ q. had q ≡ false) same lacks)
      on at there (via ∷ path) leads =
          let found = All-contains IsPut (reads_of one) via put leads.1 in (
            found.0,
            found.1,
            subst (λ q. Needs work had q at) (sym found.2) (path, leads.2),
          )

      by : (at : PlaceData) → IsTakenFor work had from at
          → (is_among given at ≡ true) ⊎ IsBehind work had before.left.keys at
          ⊎ Needs work had one at
          → (is_among given at ≡ true) ⊎ IsBehind work had after.left.keys at
      by at taken (inl known) = inl known
      by at taken (inr (inl behind)) = inr (
        behind.0,
        subst (λ ks. Contains ks behind.0) (sym keys)
            (numbers_kept before.left.keys places behind.0 behind.1),
        behind.2,
      )
      by at taken (inr (inr needs)) = inr (on at taken.there needs.0 needs.1)

-- a set without a greatest key has none
pub none_left : (ks : List ℕ) → (0 < length ks → false ≡ true) → ks ≡ []
none_left [] none = refl
none_left (k ∷ ks) none = absurd (true≢false (sym (none (omega arith))))

-- where nothing is left, all was given
pub asks_done : (work : WorkData) (had : PlaceData → Bool) (from : PlaceData)
    (given : List PlaceData) (asking : Asking) → asking.left.keys ≡ []
    → AsksFor work had from given asking → AreAllGiven work had from given
asks_done work had from given asking none asks at taken = by (asks.all at taken)
  where
    by : (is_among given at ≡ true) ⊎ IsBehind work had asking.left.keys at
        → is_among given at ≡ true
    by (inl known) = known
    by (inr behind) =
        absurd (none_in behind.0 (subst (λ ks. Contains ks behind.0) none behind.1))

-- a node that isn't a cache node, by its variants
pub not_cache : (node : Node) → ((parent : ℕ) → node ≡ nodes.Cache parent → ⊥)
    → is_cache (node_data_of node) ≡ false
not_cache (nodes.Text input slices) other = refl
not_cache (nodes.Parallelize literals slices) other = refl
not_cache (nodes.Each kind parent expr) other = refl
not_cache (nodes.Union left right) other = refl
not_cache (nodes.Coalesce parent partitions) other = refl
not_cache (nodes.Cache parent) other = absurd (other parent refl)
not_cache (nodes.Shuffle kind parent n) other = refl
not_cache (nodes.Meet kind left right n) other = refl

-- partitions of other nodes than cache nodes aren't had
pub not_had : (work : WorkData) (had : PlaceData → Bool) (at : PlaceData) → AreOfCaches work had
    → is_cache (node_at work at.node) ≡ false → had at ≡ false
not_had work had at caches other = by (had at) refl
  where
    by : (b : Bool) → had at ≡ b → had at ≡ false
    by true is = never (is_cache (node_at work at.node)) (caches at is) other
    by false is = is

-- ---- for those who ask

equal_itself : (n : ℕ) → nat_eq n n ≡ true
equal_itself n = (unsigned_Decides n n).1 refl

among_itself : (at : PlaceData) → is_among (at ∷ []) at ≡ true
among_itself at =
    ap₂ (λ a b. (a && b) || false) (equal_itself at.node) (equal_itself at.partition)

-- one that was asked for is had, and is given
pub asks_given : (work : WorkData) (had : PlaceData → Bool) (from : PlaceData)
    (given : List PlaceData) (asking : Asking) (one : PlaceData) → had one ≡ true
    → AsksPast work had from given asking one → AsksFor work had from (given ++ one ∷ []) asking
asks_given work had from given asking one there asks = record {
  only = asks.only;
  all = λ at taken. by at (asks.all at taken);
}
  where
    joined : (at : PlaceData) → (is_among given at || is_among (one ∷ []) at) ≡ true
        → is_among (given ++ one ∷ []) at ≡ true
    joined at is = list_any-append (λ q. is_place q at) given (one ∷ []) ∙ is

    on : (at : PlaceData) (path : List PlaceData) → LeadsPast work had one path at
        → is_among (given ++ one ∷ []) at ≡ true
    on at [] same = joined at (last (is_among given at)
        (subst (λ q. is_among (one ∷ []) q ≡ true) same (among_itself one)))
      where
        last : (b : Bool) → is_among (one ∷ []) at ≡ true → (b || is_among (one ∷ []) at) ≡ true
        last true is = refl
        last false is = is
    on at (via ∷ path) leads = never (had one) there leads.0

    by : (at : PlaceData) → (is_among given at ≡ true) ⊎ IsBehind work had asking.left.keys at
        ⊎ Needs work had one at
        → (is_among (given ++ one ∷ []) at ≡ true) ⊎ IsBehind work had asking.left.keys at
    by at (inl known) = inl (joined at (ap (λ b. b || is_among (one ∷ []) at) known))
    by at (inr (inl behind)) = inr behind
    by at (inr (inr needs)) = inl (on at needs.0 needs.1)

-- what holds of some partitions holds of each that is among them
pub among_all : (P : PlaceData → Type 0) (places : List PlaceData) (at : PlaceData)
    → All P places → is_among places at ≡ true → P at
among_all P [] at all is = absurd (cc)
among_all P (q ∷ places) at all is =
    by (is_place q at) refl (All-head P q places all)
    (among_all P places at (All-tail P q places all))
  where
    by : (b : Bool) → is_place q at ≡ b → P q → (is_among places at ≡ true → P at) → P at
    by true same here later = subst P (place_same q at same) here
    by false same here later =
        later (sym (ap (λ b. b || is_among places at) same) ∙ is)
