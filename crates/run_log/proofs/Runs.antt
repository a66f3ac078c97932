-- The records of a run count its worlds.
use Rattle.std.proofs.Common.{◌≡◌, ◌≤◌, ◌<◌, ◌+◌, ◌-◌, ◌∙◌, ℕ, zero, suc, Bool, true, false, cond, List, [], ◌∷◌, ◌++◌, add-one, ap, sym, refl, arith, length}
use Rattle.std.proofs.Common.{subst, get_or}
use Rattle.std.specs.Prelude.{All, None, count_by, filter, fold, map, nat_le, not, ◌==◌}
use Rattle.std.specs.List.{flat_map, range_with_len}
use Rattle.std.proofs.lemmas.Bool.Decides.{nat_tests}
use Rattle.std.proofs.lemmas.List.{append-nil, append_assoc, append_cancel_left, length-map}
use Rattle.std.proofs.lemmas.List.Concat.{flat_map-append}
use Rattle.std.proofs.lemmas.List.Elements.{All-append, All-map, filter-append}
use Rattle.std.proofs.lemmas.List.FromFn.{length-range_with_len, map-range_with_len_more}
use Rattle.std.proofs.lemmas.List.Sums.{fold-append, sum_by-append}
use Rattle.tierra_model.specs.declared.limits.TheConstants.{COUNT_END, MOST_QUANTA}
use Rattle.tierra_model.specs.declared.creatures.Creature.{Creature}
use Rattle.tierra_model.specs.declared.setups.Inoculum.{Inoculum}
use Rattle.tierra_model.specs.Counting.{one_if, times_in}
use Rattle.tierra_model.specs.Events.{with_creature}
use Rattle.tierra_model.specs.Laws.{IsSerialRun}
use Rattle.tierra_model.specs.Living.{ids_of, newborn}
use Rattle.tierra_model.specs.Individuals.{with_individual}
use Rattle.tierra_model.specs.Quantum.{quantum}
use Rattle.tierra_model.specs.Serial.{empty_world, overwrite, serial, start, with_inocula}
use Rattle.tierra_model.specs.Setups.{IsSetup, SetupFields, block_of}
use Rattle.tierra_model.specs.Sound.{IsSound}
use Rattle.tierra_model.specs.World.{World}
use Rattle.tierra_model.proofs.Owners.{ids_of-append, times_in-append}
use Rattle.tierra_model.proofs.Sound.{quantum-sound}
use Rattle.tierra_model.proofs.StartIsSound.{serial_is_sound}
use Rattle.serial_slicer.proofs.Serials.{serial-next, start-new}
use Rattle.run_log.specs.declared.record.Record.{Record}
use Rattle.run_log.specs.declared.record.Record.TheVariants.{Birth, Death}
use Rattle.run_log.specs.Records.{after_record, is_birth, is_death, living_in, point_of, quantum_of, up_to}
use Rattle.run_log.specs.Curve.{born_in, counts_of, dead_in, lived_in, lives, records_in, run_records}
use Rattle.run_log.proofs.Numbers.{filter-absent, ordered-once}
use Rattle.run_log.proofs.Later.{IsLater, later-quantum}
use Rattle.run_log.proofs.Survivors.{deaths-counted, lived-ordered, survivors}

-- ---- lists

map-same : (xs : List ℕ) → map (λ x. x) xs ≡ xs
map-same [] = refl
map-same (x ∷ xs) = ap (λ (l : List ℕ). x ∷ l) (map-same xs)

pub range-more : (a n : ℕ) → range_with_len a (n + 1) ≡ range_with_len a n ++ (a + n) ∷ []
range-more a n =
    sym (map-same (range_with_len a (n + 1))) ∙ map-range_with_len_more (λ (x : ℕ). x) a n (a + n) refl
    ∙ ap (λ (l : List ℕ). l ++ (a + n) ∷ []) (map-same (range_with_len a n))

filter-all : {X : Type 0} (p : X → Bool) (xs : List X) → All (λ x. p x ≡ true) xs → filter p xs ≡ xs
filter-all p [] h = refl
filter-all p (x ∷ xs) h =
    ap (λ (b : Bool). cond b (x ∷ filter p xs) (filter p xs)) (h 0 x (omega arith)) ∙ ap (λ (l : List _). x ∷ l)
    (filter-all p xs (λ k d below. h (suc k) d (omega arith)))

filter-nothing : {X : Type 0} (p : X → Bool) (xs : List X) → All (λ x. p x ≡ false) xs → filter p xs ≡ []
filter-nothing p [] h = refl
filter-nothing p (x ∷ xs) h =
    ap (λ (b : Bool). cond b (x ∷ filter p xs) (filter p xs)) (h 0 x (omega arith)) ∙ filter-nothing p xs (λ k d below. h (suc k) d (omega arith))

-- one number leaves a list that has it once
pub filter-one : (y : ℕ) (kept ys : List ℕ) → times_in (kept ++ y ∷ ys) y ≤ 1 → filter (λ x. not (x == y)) (kept ++ y ∷ ys) ≡ kept ++ ys
filter-one y kept ys few =
    let one : one_if (y == y) ≡ 1 = same y in
    let before : times_in kept y ≡ 0 = omega (arith, few, times_in-append kept (y ∷ ys) y, one) in
    let behind : times_in ys y ≡ 0 = omega (arith, few, times_in-append kept (y ∷ ys) y, one) in
    let out : (y == y) ≡ true = yes y in
    let tail : filter (λ x. not (x == y)) (y ∷ ys) ≡ ys =
    ap (λ (b : Bool). cond (not b) (y ∷ filter (λ x. not (x == y)) ys) (filter (λ x. not (x == y)) ys)) out ∙ filter-absent y ys behind in
    filter-append (λ x. not (x == y)) kept (y ∷ ys) ∙ ap (λ (l : List ℕ). l ++ filter (λ x. not (x == y)) (y ∷ ys)) (filter-absent y kept before)
    ∙ ap (λ (l : List ℕ). kept ++ l) tail
  where
    same : (y : ℕ) → one_if (y == y) ≡ 1
    same y = grind (arith, nat_tests)

    yes : (y : ℕ) → (y == y) ≡ true
    yes y = grind (arith, nat_tests)

-- ---- who lives after births and deaths

pub living-births : (q : ℕ) (xs ids : List ℕ) → fold after_record xs (map (λ id. Birth q id) ids) ≡ xs ++ ids
living-births q xs [] = sym (append-nil xs)
living-births q xs (id ∷ ids) = living-births q (xs ++ id ∷ []) ids ∙ append_assoc xs (id ∷ []) ids

deaths-one : (q : ℕ) (p : ℕ → Bool) (y : ℕ) (kept ys : List ℕ) (b : Bool) → times_in (kept ++ y ∷ ys) y ≤ 1
    → fold after_record ((kept ++ y ∷ []) ++ ys) (map (λ id. Death q id) (filter (λ id. not (p id)) ys)) ≡ (kept ++ y ∷ []) ++ filter p ys
    → fold after_record (kept ++ ys) (map (λ id. Death q id) (filter (λ id. not (p id)) ys)) ≡ kept ++ filter p ys
    → fold after_record (kept ++ y ∷ ys) (map (λ id. Death q id) (cond (not b) (y ∷ filter (λ id. not (p id)) ys) (filter (λ id. not (p id)) ys)))
    ≡ kept ++ cond b (y ∷ filter p ys) (filter p ys)
deaths-one q p y kept ys true few stays goes =
    ap (λ (l : List ℕ). fold after_record l (map (λ id. Death q id) (filter (λ id. not (p id)) ys))) (sym (append_assoc kept (y ∷ []) ys)) ∙ stays
    ∙ append_assoc kept (y ∷ []) (filter p ys)
deaths-one q p y kept ys false few stays goes =
    ap (λ (l : List ℕ). fold after_record l (map (λ id. Death q id) (filter (λ id. not (p id)) ys))) (filter-one y kept ys few) ∙ goes

living-deaths : (q : ℕ) (p : ℕ → Bool) (kept ys : List ℕ) → ((id : ℕ) → times_in (kept ++ ys) id ≤ 1)
    → fold after_record (kept ++ ys) (map (λ id. Death q id) (filter (λ id. not (p id)) ys)) ≡ kept ++ filter p ys
living-deaths q p kept [] once = refl
living-deaths q p kept (y ∷ ys) once =
    deaths-one q p y kept ys (p y) (once y)
    (living-deaths q p (kept ++ y ∷ []) ys (λ id. subst (λ (l : List ℕ). times_in l id ≤ 1) (sym (append_assoc kept (y ∷ []) ys)) (once id)))
    (living-deaths q p kept ys (λ id. omega (arith, times_in-append kept ys id, times_in-append kept (y ∷ ys) id, once id)))

-- ---- counts

births-births : (q : ℕ) (ids : List ℕ) → count_by is_birth (map (λ id. Birth q id) ids) ≡ length ids
births-births q [] = refl
births-births q (id ∷ ids) =
    omega (arith, sum_by-append (λ (r : Record). cond (is_birth r) 1 0) (Birth q id ∷ []) (map (λ id. Birth q id) ids), births-births q ids)

births-deaths : (q : ℕ) (ids : List ℕ) → count_by is_birth (map (λ id. Death q id) ids) ≡ 0
births-deaths q [] = refl
births-deaths q (id ∷ ids) =
    omega (arith, sum_by-append (λ (r : Record). cond (is_birth r) 1 0) (Death q id ∷ []) (map (λ id. Death q id) ids), births-deaths q ids)

deaths-births : (q : ℕ) (ids : List ℕ) → count_by is_death (map (λ id. Birth q id) ids) ≡ 0
deaths-births q [] = refl
deaths-births q (id ∷ ids) =
    omega (arith, sum_by-append (λ (r : Record). cond (is_death r) 1 0) (Birth q id ∷ []) (map (λ id. Birth q id) ids), deaths-births q ids)

deaths-deaths : (q : ℕ) (ids : List ℕ) → count_by is_death (map (λ id. Death q id) ids) ≡ length ids
deaths-deaths q [] = refl
deaths-deaths q (id ∷ ids) =
    omega (arith, sum_by-append (λ (r : Record). cond (is_death r) 1 0) (Death q id ∷ []) (map (λ id. Death q id) ids), deaths-deaths q ids)

count-append : (p : Record → Bool) (xs ys : List Record) → count_by p (xs ++ ys) ≡ count_by p xs + count_by p ys
count-append p xs ys = sum_by-append (λ (r : Record). cond (p r) 1 0) xs ys

-- ---- a run

-- the records rs, of quanta up to q, lead to the world w
pub record Tracks (inoculated q : ℕ) (rs : List Record) (w : World) : Type 0 where
  pub next_birth : w.next_birth ≡ inoculated + w.births + 1
  pub living : living_in inoculated rs ≡ ids_of w.living
  pub births : count_by is_birth rs ≡ w.births
  pub deaths : count_by is_death rs ≡ w.deaths
  pub up_to_q : All (λ r. quantum_of r ≤ q) rs

pub run-more : (setup : SetupFields) (n : ℕ) → run_records setup (n + 1) ≡ run_records setup n ++ records_in (n + 1) (serial setup n) (serial setup (n + 1))
unfolding run_records
run-more setup n =
    let f : ℕ → List Record = λ (k : ℕ). records_in (k + 1) (serial setup k) (serial setup (k + 1)) in
    ap (flat_map f) (range-more 0 n) ∙ flat_map-append f (range_with_len 0 n) ((0 + n) ∷ [])
    ∙ ap (λ (l : List Record). flat_map f (range_with_len 0 n) ++ l) (append-nil (f (0 + n)) ∙ ap f (zero_more n))
  where
    zero_more : (n : ℕ) → 0 + n ≡ n
    zero_more n = omega arith

-- all records of a quantum are of it
in-quantum : (P : Record → Type 0) (q : ℕ) (v w : World) → ((r : Record) → quantum_of r ≡ q → P r) → All P (records_in q v w)
in-quantum P q v w h =
    All-append P (map (λ id. Birth q id) (born_in v w)) (map (λ id. Death q id) (dead_in v w))
    (All-map P (λ id. Birth q id) (born_in v w) (λ k d below. h (Birth q (get_or (born_in v w) k d)) refl))
    (All-map P (λ id. Death q id) (dead_in v w) (λ k d below. h (Death q (get_or (dead_in v w) k d)) refl))

tracks-more : (inoculated q : ℕ) (rs : List Record) (v w : World) → IsSound v → IsSound w → IsLater v w → Tracks inoculated q rs v
    → Tracks inoculated (q + 1) (rs ++ records_in (q + 1) v w) w
tracks-more inoculated q rs v w sv sw l t =
    let born : List Record = map (λ id. Birth (q + 1) id) (born_in v w) in
    let died : List Record = map (λ id. Death (q + 1) id) (dead_in v w) in
    let before : List ℕ = range_with_len 1 inoculated in
    let of_birth = count-append is_birth rs (born ++ died) in
    let of_death = count-append is_death rs (born ++ died) in
    let long = length-range_with_len v.next_birth (w.next_birth - v.next_birth) in
    record {
      next_birth = omega (arith, t.next_birth, l.births);
      living = fold-append after_record before rs (born ++ died)
          ∙ ap (λ (xs : List ℕ). fold after_record xs (born ++ died)) t.living
          ∙ fold-append after_record (ids_of v.living) born died
          ∙ ap (λ (xs : List ℕ). fold after_record xs died) (living-births (q + 1) (ids_of v.living) (born_in v w))
          ∙ living-deaths (q + 1) (lives w) [] (lived_in v w) (λ id. ordered-once 1 (lived_in v w) id (lived-ordered v w sv sw l))
          ∙ survivors v w sv sw l;
      births = omega (
        arith,
        of_birth,
        count-append is_birth born died,
        births-births (q + 1) (born_in v w),
        births-deaths (q + 1) (dead_in v w),
        long,
        t.births,
        l.births,
        l.next_birth,
      );
      deaths = omega (
        arith,
        of_death,
        count-append is_death born died,
        deaths-births (q + 1) (born_in v w),
        deaths-deaths (q + 1) (dead_in v w),
        t.deaths,
        deaths-counted v w sv sw l,
      );
      up_to_q = All-append (λ r. quantum_of r ≤ q + 1) rs (born ++ died) (λ k d below. omega (arith, t.up_to_q k d below))
          (in-quantum (λ r. quantum_of r ≤ q + 1) (q + 1) v w (λ r e. omega (arith, e)));
    }

-- ---- the start

inocula-ids : (cs : List Inoculum) (w : World) → ids_of (with_inocula cs w).living ≡ ids_of w.living ++ range_with_len w.next_birth (length cs)
inocula-ids [] w = sym (append-nil (ids_of w.living))
inocula-ids (c ∷ cs) w =
    let k : ℕ = (with_individual w.genotypes c.code None 0).1 in
    let child : Creature = newborn w.next_birth (block_of c) k in
    let v : World = with_creature w.genotypes (block_of c) c.code None 0 (record w { soup = overwrite w.soup c.at c.code }) in
    let rest : List ℕ = range_with_len (w.next_birth + 1) (length cs) in
    inocula-ids cs v ∙ ap (λ (l : List ℕ). l ++ rest) (ids_of-append w.living (child ∷ [])) ∙ append_assoc (ids_of w.living) (w.next_birth ∷ []) rest

pub start-ids : (setup : SetupFields) → ids_of (start setup).living ≡ range_with_len 1 (length (start setup).living)
unfolding start
start-ids setup =
    let ids = inocula-ids setup.creatures (empty_world setup.settings) in
    let count : length (start setup).living ≡ length setup.creatures =
    sym (length-map (start setup).living (λ (c : Creature). c.id)) ∙ ap length ids ∙ length-range_with_len 1 (length setup.creatures) in
    ids ∙ ap (range_with_len 1) (sym count)

pub run-none : (setup : SetupFields) → run_records setup 0 ≡ []
unfolding run_records
run-none setup = refl

pub serial-none : (setup : SetupFields) → serial setup 0 ≡ start setup
unfolding serial
serial-none setup = refl

tracks-start : (setup : SetupFields) → IsSetup setup → Tracks (length (start setup).living) 0 [] (start setup)
tracks-start setup h =
    let new = start-new setup in
    let sound : IsSound (start setup) = subst IsSound (serial-none setup) (serial_is_sound setup 0 h (omega arith)).sound in
    record {
      next_birth = omega (arith, sound.living_and_dead, new.births, new.deaths);
      living = sym (start-ids setup);
      births = sym new.births;
      deaths = sym new.deaths;
      up_to_q = λ k d below. absurd (omega arith);
    }

-- ---- every world

pub run-tracks : (setup : SetupFields) (n : ℕ) → IsSetup setup → n ≤ MOST_QUANTA → Tracks (length (start setup).living) n (run_records setup n) (serial setup n)
run-tracks setup zero h few =
    subst (λ (rs : List Record). Tracks (length (start setup).living) 0 rs (serial setup 0)) (sym (run-none setup))
    (subst (λ (w : World). Tracks (length (start setup).living) 0 [] w) (sym (serial-none setup)) (tracks-start setup h))
run-tracks setup (suc n) h few =
    let v : World = serial setup n in
    let w : World = serial setup (n + 1) in
    let later : IsLater v w = subst (IsLater v) (sym (serial-next setup n)) (later-quantum v) in
    let sv = serial_is_sound setup n h (omega arith) in
    let sw = serial_is_sound setup (n + 1) h (omega arith) in
    let t = tracks-more (length (start setup).living) n (run_records setup n) v w sv.sound sw.sound later (run-tracks setup n h (omega arith)) in
    subst (λ (k : ℕ). Tracks (length (start setup).living) k (run_records setup k) (serial setup k)) (add-one n)
    (subst (λ (rs : List Record). Tracks (length (start setup).living) (n + 1) rs w) (sym (run-more setup n)) t)

-- what is later does not count
up_to-more : (setup : SetupFields) (q k : ℕ) → IsSetup setup → q + k ≤ MOST_QUANTA → up_to q (run_records setup (q + k)) ≡ run_records setup q
up_to-more setup q zero h few =
    let p : Record → Bool = λ (r : Record). nat_le (quantum_of r) q in
    let all = (run-tracks setup q h (omega arith)).up_to_q in
    ap (λ (k : ℕ). up_to q (run_records setup k)) (none_more q)
    ∙ filter-all p (run_records setup q) (λ k d below. passes (quantum_of (get_or (run_records setup q) k d)) q (all k d below))
  where
    none_more : (q : ℕ) → q + 0 ≡ q
    none_more q = omega arith

    passes : (n q : ℕ) → n ≤ q → nat_le n q ≡ true
    passes n q le = grind (arith, nat_tests)
up_to-more setup q (suc k) h few =
    let p : Record → Bool = λ (r : Record). nat_le (quantum_of r) q in
    let v : World = serial setup (q + k) in
    let w : World = serial setup (q + k + 1) in
    let more : run_records setup (q + suc k) ≡ run_records setup (q + k) ++ records_in (q + k + 1) v w =
    ap (run_records setup) (next q k) ∙ run-more setup (q + k) in
    ap (up_to q) more ∙ filter-append p (run_records setup (q + k)) (records_in (q + k + 1) v w)
    ∙ ap (λ (l : List Record). up_to q (run_records setup (q + k)) ++ l)
    (filter-nothing p (records_in (q + k + 1) v w)
    (in-quantum (λ r. nat_le (quantum_of r) q ≡ false) (q + k + 1) v w (λ r e. fails (quantum_of r) q (omega (arith, e)))))
    ∙ append-nil (up_to q (run_records setup (q + k))) ∙ up_to-more setup q k h (omega arith)
  where
    fails : (n q : ℕ) → q < n → nat_le n q ≡ false
    fails n q lt = grind (arith, nat_tests)

    next : (q k : ℕ) → q + suc k ≡ q + k + 1
    next q k = omega arith

-- the counts of the records up to a quantum are those of the world after it
pub points-are : (setup : SetupFields) (n q : ℕ) → IsSetup setup → n ≤ MOST_QUANTA → q ≤ n
    → point_of (length (start setup).living) (up_to q (run_records setup n)) ≡ counts_of (serial setup q)
points-are setup n q h few below =
    let whole : q + (n - q) ≡ n = omega arith in
    let inoculated : ℕ = length (start setup).living in
    let past : up_to q (run_records setup n) ≡ run_records setup q =
    ap (λ (k : ℕ). up_to q (run_records setup k)) (sym whole) ∙ up_to-more setup q (n - q) h (omega arith) in
    let t = run-tracks setup q h (omega arith) in
    let living : length (living_in inoculated (run_records setup q)) ≡ length (serial setup q).living =
    ap length t.living ∙ length-map (serial setup q).living (λ (c : Creature). c.id) in
    ap (point_of inoculated) past ∙ (λ i. record { living = living i; births = t.births i; deaths = t.deaths i })

-- ---- one quantum of a run

-- the inoculated live at the start
pub start-count : (setup : SetupFields) → length setup.creatures ≡ length (start setup).living
unfolding start
start-count setup =
    sym (sym (length-map (start setup).living (λ (c : Creature). c.id)) ∙ ap length (inocula-ids setup.creatures (empty_world setup.settings))
    ∙ length-range_with_len 1 (length setup.creatures))

-- v is the world before a quantum, w the one after it
pub record IsTurn (v w : World) : Type 0 where
  pub sound_before : IsSound v
  pub sound_after : IsSound w
  pub later : IsLater v w
  pub few : w.next_birth < COUNT_END

pub is-turn : (v w : World) (q : ℕ) → IsSound v → q ≡ v.quanta + 1 → q ≤ MOST_QUANTA → w ≡ quantum v → IsTurn v w
is-turn v w q sound number more next =
    let after : IsSound w = subst IsSound (sym next) (quantum-sound v sound (omega arith)) in
    record {
      sound_before = sound;
      sound_after = after;
      later = subst (IsLater v) (sym next) (later-quantum v);
      few = omega (arith, after.next_birth, after.quanta);
    }

pub turn-order : (setup : SetupFields) (n : ℕ) (rs : List Record) → IsSetup setup → n + 1 ≤ MOST_QUANTA → rs ≡ run_records setup n
    → All (λ r. quantum_of r ≤ n + 1) rs
turn-order setup n rs h few is = λ k d below. (
    let t = (run-tracks setup n h (omega arith)).up_to_q in
    let all : All (λ r. quantum_of r ≤ n) rs = subst (All (λ r. quantum_of r ≤ n)) (sym is) t in
    omega (arith, all k d below))

pub turn-living : (inoculated n i : ℕ) (rs qs : List Record) (living : List ℕ) (v : World) → Tracks inoculated n rs v → i ≡ inoculated → qs ≡ rs
    → living ≡ ids_of v.living
    → living ≡ living_in i qs
turn-living inoculated n i rs qs living v t same is ids =
    ids ∙ sym t.living ∙ sym (ap (λ (k : ℕ). living_in k qs) same ∙ ap (living_in inoculated) is)

-- those noted before the deaths of a quantum are those who lived before it or were born in it
pub turn-lived : (i b d : ℕ) (v w : World) (old new : List ℕ) → IsTurn v w → v.next_birth ≡ i + v.births + 1 → b ≡ v.births → d ≡ w.births
    → old ≡ ids_of v.living
    → new ≡ old ++ range_with_len (i + b + 1) (i + d + 1 - (i + b + 1)) → new ≡ lived_in v w
turn-lived i b d v w old new t numbers before after ids noted =
    let first : i + b + 1 ≡ v.next_birth = omega arith in
    let count : i + d + 1 - (i + b + 1) ≡ w.next_birth - v.next_birth = omega (arith, t.later.births, t.later.next_birth) in
    noted ∙ ap (λ (l : List ℕ). l ++ range_with_len (i + b + 1) (i + d + 1 - (i + b + 1))) ids
    ∙ (λ k. ids_of v.living ++ range_with_len (first k) (count k))

-- the births and deaths noted are the records of the quantum
pub turn-records : (q : ℕ) (v w : World) (rs born dead : List Record) (old ids : List ℕ) (lived : List ℕ) → old ≡ ids_of v.living
    → born ≡ rs ++ map (λ id. Birth q id) ids
    → lived ≡ old ++ ids → dead ≡ born ++ map (λ id. Death q id) (filter (λ id. not (lives w id)) lived) → lived ≡ lived_in v w → dead ≡ rs ++ records_in q v w
turn-records q v w rs born dead old ids lived is births noted deaths seen =
    let given : ids ≡ born_in v w = append_cancel_left (ids_of v.living) ids (born_in v w) (ap (λ (l : List ℕ). l ++ ids) (sym is) ∙ sym noted ∙ seen) in
    deaths ∙ (λ k. births k ++ map (λ id. Death q id) (filter (λ id. not (lives w id)) (seen k)))
    ∙ ap (λ (l : List ℕ). (rs ++ map (λ id. Birth q id) l) ++ map (λ id. Death q id) (dead_in v w)) given
    ∙ append_assoc rs (map (λ id. Birth q id) (born_in v w)) (map (λ id. Death q id) (dead_in v w))

pub living-after : (i q : ℕ) (rs now : List Record) (old new ids : List ℕ) → old ≡ living_in i rs → now ≡ rs ++ map (λ id. Birth q id) ids → new ≡ old ++ ids
    → new ≡ living_in i now
living-after i q rs now old new ids is noted more =
    more ∙ ap (λ (l : List ℕ). l ++ ids) is
    ∙ sym (ap (living_in i) noted ∙ fold-append after_record (range_with_len 1 i) rs (map (λ id. Birth q id) ids) ∙ living-births q (living_in i rs) ids)

-- a world of a run
pub record IsAt (setup : SetupFields) (n : ℕ) (v : World) : Type 0 where
  pub sound : IsSound v
  pub quanta : v.quanta ≡ n
  pub tracks : Tracks (length (start setup).living) n (run_records setup n) v
  pub few : length (start setup).living + v.births < COUNT_END

pub is-at : (setup : SetupFields) (n : ℕ) (v : World) → IsSetup setup → n ≤ MOST_QUANTA → v ≡ serial setup n → IsAt setup n v
is-at setup n v h few is =
    let r : IsSerialRun setup n = serial_is_sound setup n h few in
    let sound : IsSound v = subst IsSound (sym is) r.sound in
    let quanta : v.quanta ≡ n = ap (λ (u : World). u.quanta) is ∙ r.quanta in
    let tracks : Tracks (length (start setup).living) n (run_records setup n) v =
    subst (λ (u : World). Tracks (length (start setup).living) n (run_records setup n) u) (sym is) (run-tracks setup n h few) in
    record { sound = sound; quanta = quanta; tracks = tracks; few = omega (arith, tracks.next_birth, sound.next_birth, sound.quanta) }
