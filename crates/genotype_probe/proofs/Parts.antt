-- What is dealt to a worker, and found again.
use Rattle.std.proofs.Common.{◌≡◌, ◌∙◌, ⊎_elim, sym, ap, subst, refl, arith, ℕ, zero, suc, ◌*◌, ◌+◌, ◌-◌, ◌<◌, ◌≤◌, ◌/◌, ◌%◌, List, [], ◌∷◌, ◌++◌, get_or}
use Rattle.std.proofs.Common.{length, length-append, map, take, Some}
use Rattle.std.specs.Global.{Vec}
use Rattle.std.specs.Prelude.{Option, option_map, slice_get}
use Rattle.std.proofs.Math.Nat.{mod-add-div, mod-lt, mul-le-mul_left}
use Rattle.std.proofs.lemmas.Bool.{cases_lt}
use Rattle.std.proofs.lemmas.List.{length-map, length_push, take_more}
use Rattle.std.proofs.lemmas.Option.{get_or_from_slice_get, same_Some, slice_get-get_or, slice_get-map, slice_get_read, slice_get_within}
use Rattle.tierra_model.specs.declared.genebank.Saved.{Saved}
use Rattle.genotype_probe.specs.declared.Efforts.{Efforts}
use Rattle.genotype_probe.specs.Dealing.{AreParts, IsPart}
use Rattle.genotype_probe.specs.Probes.{probe}

-- the probes of the genotypes dealt before this place
pub record IsPartSoFar (saved : List Saved) (n first step place : ℕ) (part : List Efforts) : Type 0 where
  pub at : place ≡ first + step * length part
  pub each : (i : ℕ) (s : Saved) → i < length part → slice_get saved (first + step * i) ≡ Some s → slice_get part i ≡ Some (probe s.code n)

pub nothing_dealt : (saved : List Saved) (n first step : ℕ) → IsPartSoFar saved n first step first []
nothing_dealt saved n first step = record {
  at = omega arith;
  each = λ i s h. absurd (omega (arith, h));
}

get_left : {X : Type 0} (xs ys : List X) (i : ℕ) → i < length xs → slice_get (xs ++ ys) i ≡ slice_get xs i
get_left [] ys i h = absurd (omega (arith, h))
get_left (x ∷ xs) ys zero h = refl
get_left (x ∷ xs) ys (suc i) h = get_left xs ys i (omega (arith, h))

get_right : {X : Type 0} (xs ys : List X) (k : ℕ) → slice_get (xs ++ ys) (length xs + k) ≡ slice_get ys k
get_right [] ys k = let e : 0 + k ≡ k = omega arith in ap (λ (j : ℕ). slice_get ys j) e
get_right (x ∷ xs) ys k =
    let e : length (x ∷ xs) + k ≡ suc (length xs + k) = omega arith in
    ap (λ (j : ℕ). slice_get (x ∷ (xs ++ ys)) j) e ∙ get_right xs ys k

-- the next one is probed
pub one_more : (saved : List Saved) (n first step place : ℕ) (part now : List Efforts) (s : Saved) (e : Efforts)
    → IsPartSoFar saved n first step place part → slice_get saved place ≡ Some s → e ≡ probe s.code n → now ≡ part ++ e ∷ []
    → IsPartSoFar saved n first step (place + step) now
one_more saved n first step place part now s e so_far is e_is now_is =
    let long : length now ≡ length part + 1 = ap length now_is ∙ length_push part e in
    let wide : step * length now ≡ step * length part + step = ap (λ (k : ℕ). step * k) long ∙ omega arith in
    record {
      at = omega (arith, so_far.at, wide);
      each = λ i t within t_is. ⊎_elim
          (λ earlier. ap (λ (xs : List Efforts). slice_get xs i) now_is ∙ get_left part (e ∷ []) i earlier ∙ so_far.each i t earlier t_is)
          (λ last.
          let here : i ≡ length part = omega (arith, within, long, last) in
          let at : first + step * i ≡ place = ap (λ (k : ℕ). first + step * k) here ∙ sym so_far.at in
          let same : t ≡ s = same_Some t s (sym t_is ∙ ap (λ (k : ℕ). slice_get saved k) at ∙ is) in
          let end : i ≡ length part + 0 = omega (arith, here) in
          ap (λ (k : ℕ). slice_get now k) end ∙ ap (λ (xs : List Efforts). slice_get xs (length part + 0)) now_is ∙ get_right part (e ∷ []) 0
          ∙ ap Some (e_is ∙ ap (λ (x : Saved). probe x.code n) (sym same)))
          (cases_lt i (length part));
    }

-- no place is left
pub all_dealt : (saved : List Saved) (n first step place : ℕ) (part : List Efforts) → IsPartSoFar saved n first step place part
    → length saved ≤ place → IsPart saved n first step part
all_dealt saved n first step place part so_far past i s is =
    let within : first + step * i < length saved = slice_get_within saved (first + step * i) s is in
    ⊎_elim
    (λ earlier. so_far.each i s earlier is)
    (λ late. absurd (omega (arith, within, past, so_far.at, mul-le-mul_left step late)))
    (cases_lt i (length part))

some_at : {X : Type 0} (xs : List X) (place : ℕ) → place < length xs → (x : X) × (slice_get xs place ≡ Some x)
some_at [] place h = absurd (omega (arith, h))
some_at (x ∷ rest) zero h = (x, refl)
some_at (x ∷ rest) (suc place) h = some_at rest place (omega (arith, h))

-- where the probe of the genotype at a place is
found : (saved : List Saved) (n place : ℕ) (parts : List (Vec Efforts)) (part : Vec Efforts)
    → AreParts saved n 0 (length parts) (length parts) parts → 0 < length parts → part ≡ get_or parts (place % length parts) part
    → place < length saved → slice_get part.items (place / length parts) ≡ slice_get (map (λ s. probe s.code n) saved) place
found saved n place parts part are some is within =
    let s = some_at saved place within in
    let that : slice_get parts (place % length parts) ≡ Some part =
    slice_get_read parts (length parts) (place % length parts) part refl (mod-lt place some) is
    in
    let none : 0 + place % length parts ≡ place % length parts = omega arith in
    let at : 0 + place % length parts + length parts * (place / length parts) ≡ place =
    ap (λ (k : ℕ). k + length parts * (place / length parts)) none ∙ mod-add-div place (length parts)
    in
    let here = are.each (place % length parts) part that (place / length parts) s.0 (ap (λ (k : ℕ). slice_get saved k) at ∙ s.1) in
    here ∙ sym (slice_get-map (λ (x : Saved). probe x.code n) saved place ∙ ap (λ (o : Option Saved). option_map (λ (x : Saved). probe x.code n) o) s.1)

pub found_within : (saved : List Saved) (n place : ℕ) (parts : List (Vec Efforts)) (part : Vec Efforts)
    → AreParts saved n 0 (length parts) (length parts) parts → 0 < length parts → part ≡ get_or parts (place % length parts) part
    → place < length saved → place / length parts < length part.items
found_within saved n place parts part are some is within =
    let probes = map (λ s. probe s.code n) saved in
    let long : length probes ≡ length saved = length-map saved (λ (s : Saved). probe s.code n) in
    let e = some_at probes place (omega (arith, within, long)) in
    slice_get_within part.items (place / length parts) e.0 (found saved n place parts part are some is within ∙ e.1)

pub found_is : (saved : List Saved) (n place : ℕ) (parts : List (Vec Efforts)) (part : Vec Efforts) (d : Efforts)
    → AreParts saved n 0 (length parts) (length parts) parts → 0 < length parts → part ≡ get_or parts (place % length parts) part
    → place < length saved → slice_get (map (λ s. probe s.code n) saved) place ≡ Some (get_or part.items (place / length parts) d)
found_is saved n place parts part d are some is within =
    let inside = found_within saved n place parts part are some is within in
    sym (found saved n place parts part are some is within) ∙ slice_get-get_or part.items (place / length parts) d inside

-- the probes of two lists of workers
pub joined_parts : (saved : List Saved) (n first middle last step : ℕ) (parts others all : List (Vec Efforts)) → first ≤ middle → middle ≤ last
    → AreParts saved n first middle step parts → AreParts saved n middle last step others → all ≡ parts ++ others
    → AreParts saved n first last step all
joined_parts saved n first middle last step parts others all low high one two is = record {
  count = ap length is ∙ length-append parts others ∙ omega (arith, low, high, one.count, two.count);
  each = λ k part part_is.
      let here : slice_get (parts ++ others) k ≡ Some part = sym (ap (λ (xs : List (Vec Efforts)). slice_get xs k) is) ∙ part_is in
      ⊎_elim
      (λ left. one.each k part (sym (get_left parts others k left) ∙ here))
      (λ right.
      let place : k ≡ length parts + (k - length parts) = omega (arith, right) in
      let at : first + k ≡ middle + (k - length parts) = omega (arith, right, low, one.count) in
      let from : slice_get others (k - length parts) ≡ Some part =
      sym (get_right parts others (k - length parts)) ∙ sym (ap (λ (j : ℕ). slice_get (parts ++ others) j) place) ∙ here in
      subst (λ (j : ℕ). IsPart saved n j step part.items) (sym at) (two.each (k - length parts) part from))
      (cases_lt k (length parts));
}

-- one more probe, in the order of the genotypes
pub gathered_more : (saved : List Saved) (n place : ℕ) (all now : List Efforts) (e : Efforts) → place < length saved
    → all ≡ take place (map (λ s. probe s.code n) saved) → slice_get (map (λ s. probe s.code n) saved) place ≡ Some e
    → now ≡ all ++ e ∷ [] → now ≡ take (place + 1) (map (λ s. probe s.code n) saved)
gathered_more saved n place all now e within all_is e_is now_is =
    let probes = map (λ s. probe s.code n) saved in
    let inside : place < length probes = slice_get_within probes place e e_is in
    let there : get_or probes place e ≡ e = get_or_from_slice_get probes place e e e_is in
    now_is ∙ ap (λ (xs : List Efforts). xs ++ e ∷ []) all_is
    ∙ sym (take_more probes place e inside ∙ ap (λ (x : Efforts). take place probes ++ x ∷ []) there)
