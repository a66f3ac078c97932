-- The entries of a log keep the counts of its records.
use Rattle.std.proofs.Common.{◌≡◌, ◌≤◌, ◌<◌, ◌+◌, ◌-◌, ◌∙◌, ℕ, zero, suc, Bool, true, false, cond, List, [], ◌∷◌, ◌++◌, ap, sym, refl, arith, inl, inr, length}
use Rattle.std.proofs.Common.{take, get_or, subst}
use Rattle.std.specs.Prelude.{All, count_by, filter, fold, map, nat_le, not, ◌==◌}
use Rattle.std.specs.List.{range_with_len}
use Rattle.std.specs.List.Sorted.{IsPartitionPoint}
use Rattle.std.proofs.lemmas.List.{get_or_append_left, get_or_push, length_push, map-append, take-append-le, take-map, take_all, length-map, get_or-map}
use Rattle.std.proofs.lemmas.List.FromFn.{length-range_with_len}
use Rattle.std.proofs.lemmas.List.Sorted.{IsNonDecreasingBy-push}
use Rattle.std.proofs.lemmas.List.Sums.{count_by-le-length, fold-append, length-filter, sum_by-append}
use Rattle.std.proofs.lemmas.Bool.Decides.{eqb_tells, leb_tells}
use Rattle.tierra_model.specs.declared.limits.TheConstants.{COUNT_END}
use Rattle.tierra_model.specs.Counting.{one_if, times_in}
use Rattle.tierra_model.proofs.Owners.{times_in-append}
use Rattle.run_log.specs.declared.log.Entry.{Entry}
use Rattle.run_log.specs.declared.log.Point.{Point}
use Rattle.run_log.specs.declared.record.Record.{Record}
use Rattle.run_log.specs.declared.record.Record.TheVariants.{Birth, Death}
use Rattle.run_log.specs.Records.{LogFields, after_record, is_birth, is_death, living_in, point_of, quantum_of, up_to}
use Rattle.run_log.specs.Entries.{IsKept, records_of}
use Rattle.run_log.proofs.Numbers.{length-filter_one, ordered-once, ordered-range, times_in-fewer}

-- ---- one record more

pub living-push : (inoculated : ℕ) (records : List Record) (r : Record)
    → living_in inoculated (records ++ r ∷ []) ≡ after_record (living_in inoculated records) r
living-push inoculated records r = fold-append after_record (range_with_len 1 inoculated) records (r ∷ [])

count-push : (p : Record → Bool) (records : List Record) (r : Record) → count_by p (records ++ r ∷ []) ≡ count_by p records + cond (p r) 1 0
count-push p records r = sum_by-append (λ (x : Record). cond (p x) 1 0) records (r ∷ []) ∙ ap (λ (n : ℕ). count_by p records + n) (zero_more (cond (p r) 1 0))
  where
    zero_more : (n : ℕ) → 0 + n ≡ n
    zero_more n = omega arith

pub point-birth : (inoculated : ℕ) (records : List Record) (quantum id : ℕ) → (
    let last : Point = point_of inoculated records in
    record { living = last.living + 1; births = last.births + 1; deaths = last.deaths } ≡ point_of inoculated (records ++ Birth quantum id ∷ []))
point-birth inoculated records quantum id =
    let now : List Record = records ++ Birth quantum id ∷ [] in
    let living : length (living_in inoculated records) + 1 ≡ length (living_in inoculated now) =
    sym (ap length (living-push inoculated records (Birth quantum id)) ∙ length_push (living_in inoculated records) id) in
    let births : count_by is_birth records + 1 ≡ count_by is_birth now = sym (count-push is_birth records (Birth quantum id)) in
    let deaths : count_by is_death records ≡ count_by is_death now = omega (arith, count-push is_death records (Birth quantum id)) in
    λ i. record { living = living i; births = births i; deaths = deaths i }

pub point-death : (inoculated : ℕ) (records : List Record) (quantum id : ℕ) → times_in (living_in inoculated records) id ≡ 1 → (
    let last : Point = point_of inoculated records in
    record { living = last.living - 1; births = last.births; deaths = last.deaths + 1 } ≡ point_of inoculated (records ++ Death quantum id ∷ []))
point-death inoculated records quantum id one =
    let now : List Record = records ++ Death quantum id ∷ [] in
    let one_less = length-filter_one id (living_in inoculated records) one in
    let living : length (living_in inoculated records) - 1 ≡ length (living_in inoculated now) =
    omega (arith, one_less, ap length (living-push inoculated records (Death quantum id))) in
    let births : count_by is_birth records ≡ count_by is_birth now = omega (arith, count-push is_birth records (Death quantum id)) in
    let deaths : count_by is_death records + 1 ≡ count_by is_death now = sym (count-push is_death records (Death quantum id)) in
    λ i. record { living = living i; births = births i; deaths = deaths i }

pub point-none : (inoculated : ℕ) → record { living = inoculated; births = 0; deaths = 0 } ≡ point_of inoculated []
point-none inoculated =
    let all : inoculated ≡ length (range_with_len 1 inoculated) = sym (length-range_with_len 1 inoculated) in
    λ i. record { living = all i; births = 0; deaths = 0 }

-- counts are no greater than the log is long
pub living-few : (inoculated : ℕ) (records : List Record) → length (living_in inoculated records) ≤ inoculated + length records
living-few inoculated records = omega (arith, go (range_with_len 1 inoculated) records, length-range_with_len 1 inoculated)
  where
    fewer : (p : ℕ → Bool) (xs : List ℕ) → length (filter p xs) ≤ length xs
    fewer p xs = omega (arith, length-filter p xs, count_by-le-length p xs)

    after : (xs : List ℕ) (r : Record) → length (after_record xs r) ≤ length xs + 1
    after xs (Birth quantum id) = omega (arith, length_push xs id)
    after xs (Death quantum id) = omega (arith, fewer (λ x. not (x == id)) xs)

    go : (xs : List ℕ) (rs : List Record) → length (fold after_record xs rs) ≤ length xs + length rs
    go xs [] = omega arith
    go xs (r ∷ rs) = omega (arith, go (after_record xs r) rs, after xs r)

-- ---- what is kept

pub kept-none : (inoculated : ℕ) → inoculated < COUNT_END → IsKept inoculated []
kept-none inoculated few =
    record {
      few = few;
      risen = λ i j d le below. absurd (omega arith);
      once = λ id. ordered-once 1 (range_with_len 1 inoculated) id (ordered-range 1 inoculated);
      points = λ k d below. absurd (omega arith);
    }

once-birth : (xs : List ℕ) (new : ℕ) → times_in xs new ≡ 0 → ((id : ℕ) → times_in xs id ≤ 1) → (id : ℕ) → times_in (xs ++ new ∷ []) id ≤ 1
once-birth xs new none once id = elim (eqb_tells new id) [
  | inl e ↦ (
      let one : one_if (new == id) ≡ 1 = ap one_if e.0 in
      let nobody : times_in xs id ≡ 0 = ap (times_in xs) (sym e.1) ∙ none in
      omega (arith, times_in-append xs (new ∷ []) id, one, nobody))
  | inr e ↦ (
      let zero : one_if (new == id) ≡ 0 = ap one_if e.0 in
      omega (arith, times_in-append xs (new ∷ []) id, zero, once id))
]

kept-push : (inoculated : ℕ) (entries : List Entry) (e : Entry) → IsKept inoculated entries → All (λ r. quantum_of r ≤ quantum_of e.note) (records_of entries)
    → e.point ≡ point_of inoculated (records_of entries ++ e.note ∷ [])
    → ((id : ℕ) → times_in (after_record (living_in inoculated (records_of entries)) e.note) id ≤ 1) → IsKept inoculated (entries ++ e ∷ [])
kept-push inoculated entries e k order point once =
    let records : records_of (entries ++ e ∷ []) ≡ records_of entries ++ e.note ∷ [] = map-append (λ (x : Entry). x.note) entries (e ∷ []) in
    let long : length (records_of entries) ≡ length entries = length-map entries (λ (x : Entry). x.note) in
    record {
      few = k.few;
      risen = IsNonDecreasingBy-push (λ (x : Entry). quantum_of x.note) entries e k.risen
          (λ d some. subst (λ (r : Record). quantum_of r ≤ quantum_of e.note)
          (get_or-map (λ (x : Entry). x.note) entries (length entries - 1) d d.note (omega arith))
          (order (length entries - 1) d.note (omega (arith, long))));
      once = λ id. (
          let living : living_in inoculated (records_of (entries ++ e ∷ [])) ≡ after_record (living_in inoculated (records_of entries)) e.note =
          ap (living_in inoculated) records ∙ living-push inoculated (records_of entries) e.note in
          subst (λ (xs : List ℕ). times_in xs id ≤ 1) (sym living) (once id));
      points = λ j d below. elim (leb_tells (length entries) j) [
        | inl last ↦ (
            let here : length entries ≡ j = omega (arith, last.1, below, length_push entries e) in
            let whole : take (j + 1) (entries ++ e ∷ []) ≡ entries ++ e ∷ [] =
            take_all (j + 1) (entries ++ e ∷ []) (omega (arith, length_push entries e, here)) in
            ap (λ (x : Entry). x.point) (get_or_push entries e d j here) ∙ point
            ∙ sym (ap (λ (es : List Entry). point_of inoculated (records_of es)) whole ∙ ap (point_of inoculated) records))
        | inr before ↦ (
            let same : take (j + 1) (entries ++ e ∷ []) ≡ take (j + 1) entries = take-append-le (j + 1) entries (e ∷ []) (omega (arith, before.1)) in
            ap (λ (x : Entry). x.point) (get_or_append_left entries (e ∷ []) d j before.1) ∙ k.points j d before.1
            ∙ sym (ap (λ (es : List Entry). point_of inoculated (records_of es)) same))
      ];
    }

pub kept-birth : (v : LogFields) (entries : List Entry) (quantum id : ℕ) (last : Point) → IsKept v.inoculated entries → records_of entries ≡ v.records
    → last ≡ point_of v.inoculated v.records → All (λ r. quantum_of r ≤ quantum) v.records → times_in (living_in v.inoculated v.records) id ≡ 0
    → IsKept v.inoculated (entries ++ record {
      note = Birth quantum id;
      point = record { living = last.living + 1; births = last.births + 1; deaths = last.deaths };
    } ∷ [])
kept-birth v entries quantum id last k is point order absent =
    let e : Entry = record { note = Birth quantum id; point = record { living = last.living + 1; births = last.births + 1; deaths = last.deaths } } in
    let records : List Record = records_of entries in
    let counted : last ≡ point_of v.inoculated records = point ∙ ap (point_of v.inoculated) (sym is) in
    let nobody : times_in (living_in v.inoculated records) id ≡ 0 = ap (λ (rs : List Record). times_in (living_in v.inoculated rs) id) is ∙ absent in
    kept-push v.inoculated entries e k (subst (All (λ r. quantum_of r ≤ quantum)) (sym is) order)
    (ap (λ (p : Point). let q : Point = record { living = p.living + 1; births = p.births + 1; deaths = p.deaths } in
    q) counted ∙ point-birth v.inoculated records quantum id)
    (once-birth (living_in v.inoculated records) id nobody k.once)

pub kept-death : (v : LogFields) (entries : List Entry) (quantum id : ℕ) (last : Point) → IsKept v.inoculated entries → records_of entries ≡ v.records
    → last ≡ point_of v.inoculated v.records → All (λ r. quantum_of r ≤ quantum) v.records → 0 < times_in (living_in v.inoculated v.records) id
    → IsKept v.inoculated (entries ++ record {
      note = Death quantum id;
      point = record { living = last.living - 1; births = last.births; deaths = last.deaths + 1 };
    } ∷ [])
kept-death v entries quantum id last k is point order present =
    let e : Entry = record { note = Death quantum id; point = record { living = last.living - 1; births = last.births; deaths = last.deaths + 1 } } in
    let records : List Record = records_of entries in
    let counted : last ≡ point_of v.inoculated records = point ∙ ap (point_of v.inoculated) (sym is) in
    let here : times_in (living_in v.inoculated records) id ≡ 1 =
    omega (arith, k.once id, ap (λ (rs : List Record). times_in (living_in v.inoculated rs) id) is, present) in
    kept-push v.inoculated entries e k (subst (All (λ r. quantum_of r ≤ quantum)) (sym is) order)
    (ap (λ (p : Point). let q : Point = record { living = p.living - 1; births = p.births; deaths = p.deaths + 1 } in q) counted
    ∙ point-death v.inoculated records quantum id here)
    (λ other. omega (arith, times_in-fewer (λ x. not (x == id)) (living_in v.inoculated records) other, k.once other))

-- ---- a search

filter-none : {X : Type 0} (p : X → Bool) (xs : List X) → ((k : ℕ) (d : X) → k < length xs → p (get_or xs k d) ≡ false) → filter p xs ≡ []
filter-none p [] none = refl
filter-none p (x ∷ xs) none =
    ap (λ (b : Bool). cond b (x ∷ filter p xs) (filter p xs)) (none 0 x (omega arith)) ∙ filter-none p xs (λ k d below. none (suc k) d (omega arith))

-- what comes before the place where a test ends is what passes it
filter-before : {X : Type 0} (p : X → Bool) (xs : List X) (i : ℕ) → IsPartitionPoint (λ y. p y ≡ true) (λ y. p y ≡ false) xs i → i ≤ length xs
    → filter p xs ≡ take i xs
filter-before p [] zero point within = refl
filter-before p [] (suc i) point within = absurd (omega arith)
filter-before p (x ∷ xs) zero point within = filter-none p (x ∷ xs) (λ k d below. point.1 k d (omega arith) below)
filter-before p (x ∷ xs) (suc i) point within =
    let rest = filter-before p xs i (
      λ k d low below. point.0 (suc k) d (omega arith) (omega arith),
      λ k d low below.
          point.1 (suc k) d (omega arith) (omega arith),
    )
    (omega arith) in
    ap (λ (b : Bool). cond b (x ∷ filter p xs) (filter p xs)) (point.0 0 x (omega arith) (omega arith)) ∙ ap (λ (l : List _). x ∷ l) rest

filter-map : {X Y : Type 0} (p : Y → Bool) (f : X → Y) (xs : List X) → filter p (map f xs) ≡ map f (filter (λ x. p (f x)) xs)
filter-map p f [] = refl
filter-map {X = X} {Y = Y} p f (x ∷ xs) = one (p (f x)) (filter-map p f xs)
  where
    one : (b : Bool) → filter p (map f xs) ≡ map f (filter (λ y. p (f y)) xs)
        → cond b (f x ∷ filter p (map f xs)) (filter p (map f xs)) ≡ map f (cond b (x ∷ filter (λ y. p (f y)) xs) (filter (λ y. p (f y)) xs))
    one true rest = ap (λ (l : List Y). f x ∷ l) rest
    one false rest = rest

pub point-at : (records : List Record) (entries seen : List Entry) (quantum i : ℕ) → records_of entries ≡ records → seen ≡ entries
    → IsPartitionPoint (λ e. nat_le (quantum_of e.note) quantum ≡ true) (λ e. nat_le (quantum_of e.note) quantum ≡ false) seen i → i ≤ length seen
    → take i records ≡ up_to quantum records
point-at records entries seen quantum i is same point within =
    let note : Entry → Record = λ (x : Entry). x.note in
    let passes : Entry → Bool = λ (x : Entry). nat_le (quantum_of x.note) quantum in
    let here : records_of seen ≡ records = ap records_of same ∙ is in
    subst (λ rs. take i rs ≡ up_to quantum rs) here
    (take-map note i seen ∙ ap (map note) (sym (filter-before passes seen i point within))
    ∙ sym (filter-map (λ (r : Record). nat_le (quantum_of r) quantum) note seen))

-- the counts after k records
pub point-before : (v : LogFields) (entries : List Entry) (after : ℕ) (e d : Entry) → IsKept v.inoculated entries → records_of entries ≡ v.records → 0 < after
    → after ≤ length entries → e ≡ get_or entries (after - 1) d → e.point ≡ point_of v.inoculated (take after v.records)
point-before v entries after e d k is some within at =
    let one : after - 1 + 1 ≡ after = omega arith in
    ap (λ (x : Entry). x.point) at ∙ k.points (after - 1) d (omega arith)
    ∙ ap (λ (n : ℕ). point_of v.inoculated (records_of (take n entries))) one
    ∙ ap (point_of v.inoculated) (sym (take-map (λ (x : Entry). x.note) after entries) ∙ ap (take after) is)
