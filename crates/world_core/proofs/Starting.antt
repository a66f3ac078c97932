-- A world that is being filled: what holds while creatures are still to come.
use Rattle.std.proofs.Common.{◌≡◌, ℕ, ◌+◌, ◌≤◌, Bool, true, false, List, [], ◌∷◌, ◌++◌, refl, sym, ◌∙◌, ap, subst, arith, drop, length, length-append, take}
use Rattle.std.proofs.lemmas.Bool.Decides.{nat_tests}
use Rattle.std.proofs.lemmas.List.{length-drop, length-replicate, length-take}
use Rattle.std.proofs.lemmas.List.Elements.{All-head, All-nil, All-tail}
use Rattle.std.specs.Prelude.{All, None, nat_lt}
use Rattle.tierra_model.specs.declared.creatures.Block.{Block}
use Rattle.tierra_model.specs.declared.creatures.Creature.{Creature}
use Rattle.tierra_model.specs.declared.parameters.Settings.{Settings}
use Rattle.tierra_model.specs.declared.setups.Inoculum.{Inoculum}
use Rattle.tierra_model.specs.Counting.{one_if, sum_of, times_in}
use Rattle.tierra_model.specs.Ranges.{IsCode}
use Rattle.tierra_model.specs.Blocks.{is_in}
use Rattle.tierra_model.specs.Living.{ids_of, newborn}
use Rattle.tierra_model.specs.World.{Genotype, World}
use Rattle.tierra_model.specs.Sound.{owners, owners_of}
use Rattle.tierra_model.specs.Individuals.{with_individual}
use Rattle.tierra_model.specs.Serial.{empty_world, overwrite}
use Rattle.tierra_model.specs.Setups.{IsSetup, SetupFields, block_of}
use Rattle.tierra_model.proofs.Owners.{ids_of-append, is_owned-owners, sum_of-append, times_in-append}
use Rattle.tierra_model.proofs.EachOnce.{each_once-with_creature}
use Rattle.tierra_model.proofs.Genotypes.{Counts, Listed, with_individual-listed}
use Rattle.tierra_model.proofs.SumOfSizes.{Lies, sizes_fit}
use Rattle.world_core.specs.Starting.{CanInoculate, inoculated}

abbrev IsWritten : Inoculum → Type 0
IsWritten c = IsCode c.code

abbrev cells_to_come : List Inoculum → ℕ → ℕ
cells_to_come cs p = sum_of (λ c. one_if (is_in (block_of c) p)) cs

-- the creatures of the list are still to come
pub record Fills (s : Settings) (cs : List Inoculum) (w : World) : Type 0 where
  pub settings : w.settings ≡ s
  pub cells : length w.soup ≡ s.soup_size
  pub next_birth : w.next_birth ≡ length w.living + 1
  pub few : length w.living + length cs ≤ 1048576
  pub once : (id : ℕ) → times_in (ids_of w.living) id ≤ 1
  pub slicer : (id : ℕ) → times_in w.slicer id ≡ times_in (ids_of w.living) id
  pub reaper : (id : ℕ) → times_in w.reaper id ≡ times_in (ids_of w.living) id
  pub fresh : (id : ℕ) → w.next_birth ≤ id → times_in (ids_of w.living) id ≡ 0
  pub apart : (p : ℕ) → owners w.living p + cells_to_come cs p ≤ 1
  pub listed : Listed (length w.living) w.genotypes
  pub written : All IsWritten cs
  pub lies : All (Lies s.soup_size) cs

-- ---- the next creature can come

free : (o m : ℕ) (b : Bool) → o + (one_if b + m) ≤ 1 → b ≡ true → nat_lt 0 o ≡ false
free o m true h e = grind (arith, nat_tests)
free o m false h e = (let no : false ≡ true = e in cc)

pub fills-can : (s : Settings) (c : Inoculum) (cs : List Inoculum) (w : World) → Fills s (c ∷ cs) w → CanInoculate w c.at c.code
fills-can s c cs w f =
    let lies : c.at + length c.code ≤ s.soup_size = All-head (Lies s.soup_size) c cs f.lies in
    record {
      written = All-head IsWritten c cs f.written;
      lies = subst (λ (t : Settings). c.at + length c.code ≤ t.soup_size) (sym f.settings) lies;
      free = λ p here. is_owned-owners w.living p ∙ free (owners w.living p) (cells_to_come cs p) (is_in (block_of c) p) (f.apart p) here;
      cells = f.cells ∙ ap (λ (t : Settings). t.soup_size) (sym f.settings);
      slicer = f.slicer;
      reaper = f.reaper;
      fresh = f.fresh;
      some = omega (arith, f.next_birth);
      few = omega (arith, f.next_birth, f.few);
      living = omega (arith, f.next_birth);
      totals = λ k g h. omega (arith, f.listed.totals k g h, f.few);
    }

-- ---- and has come

length-overwrite : (xs : List ℕ) (at : ℕ) (ys : List ℕ) → at + length ys ≤ length xs → length (overwrite xs at ys) ≡ length xs
length-overwrite xs at ys h =
    omega (
      arith,
      length-append (take at xs ++ ys) (drop (at + length ys) xs),
      length-append (take at xs) ys,
      length-take at xs,
      length-drop (at + length ys)
          xs,
    )

pub fills-next : (s : Settings) (c : Inoculum) (cs : List Inoculum) (w : World) → Fills s (c ∷ cs) w → Fills s cs (inoculated w c.at c.code)
fills-next s c cs w f =
    let b : Block = block_of c in
    let code : IsCode c.code = All-head IsWritten c cs f.written in
    let lies : c.at + length c.code ≤ s.soup_size = All-head (Lies s.soup_size) c cs f.lies in
    let k : ℕ = length w.living in
    let gs : List Genotype = (with_individual w.genotypes c.code None 0).0 in
    let j : ℕ = (with_individual w.genotypes c.code None 0).1 in
    let r : Listed (k + 1) gs × Counts c.code w.genotypes gs j = with_individual-listed k w.genotypes c.code None 0 code tt f.listed in
    let nb : Creature = newborn w.next_birth b j in
    let t = each_once-with_creature w.genotypes b c.code None 0 (record w { soup = overwrite w.soup c.at c.code }) f.once f.reaper f.fresh in
    let ids : ids_of (w.living ++ nb ∷ []) ≡ ids_of w.living ++ w.next_birth ∷ [] = ids_of-append w.living (nb ∷ []) in
    let longer : length (w.living ++ nb ∷ []) ≡ k + 1 = length-append w.living (nb ∷ []) in
    record {
      settings = f.settings;
      cells = length-overwrite w.soup c.at c.code (omega (arith, f.cells)) ∙ f.cells;
      next_birth = omega (arith, f.next_birth, longer);
      few = omega (arith, f.few, longer);
      once = t.0;
      slicer = λ id. times_in-append w.slicer (w.next_birth ∷ []) id ∙ ap (λ (q : ℕ). q + times_in (w.next_birth ∷ []) id) (f.slicer id)
          ∙ sym (ap (λ (y : List ℕ). times_in y id) ids ∙ times_in-append (ids_of w.living) (w.next_birth ∷ []) id);
      reaper = t.1;
      fresh = t.2;
      apart = λ p. (let a = f.apart p in let o = sum_of-append (λ (x : Creature). owners_of x p) w.living (nb ∷ []) in omega arith);
      listed = subst (λ (n : ℕ). Listed n gs) (sym longer) r.0;
      written = All-tail IsWritten c cs f.written;
      lies = All-tail (Lies s.soup_size) c cs f.lies;
    }

-- ---- nobody has come

-- each creature has a cell
few_come : (cs : List Inoculum) → All IsWritten cs → length cs ≤ sum_of (λ c. length c.code) cs
few_come [] h = omega arith
few_come (c ∷ cs) h = (let one = (All-head IsWritten c cs h).0 in omega (arith, few_come cs (All-tail IsWritten c cs h)))

pub fills-none : (setup : SetupFields) → IsSetup setup → Fills setup.settings setup.creatures (empty_world setup.settings)
fills-none setup h =
    let s : Settings = setup.settings in
    record {
      settings = refl;
      cells = length-replicate s.soup_size 0;
      next_birth = refl;
      few = omega (arith, few_come setup.creatures h.written, sizes_fit s.soup_size setup.creatures h.apart h.placed, s.soup);
      once = λ id. omega arith;
      slicer = λ id. refl;
      reaper = λ id. refl;
      fresh = λ id l. refl;
      apart = λ p. omega (arith, h.apart p);
      listed = record { once = λ code. omega arith; written = All-nil _; parents = tt; totals = All-nil _; efforts = All-nil _ };
      written = h.written;
      lies = h.placed;
    }
