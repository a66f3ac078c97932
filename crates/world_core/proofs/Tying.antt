-- The parts stay tied as records are put in, blocks are taken and given back, and creatures come and go.
use Rattle.std.proofs.Common.{◌≡◌, ℕ, ◌+◌, ◌<◌, ◌≤◌, Bool, true, false, List, [], ◌∷◌, ◌++◌, sym, ◌∙◌, ap, arith, inl, inr, length}
use Rattle.std.proofs.lemmas.Bool.Decides.{eqb_tells, nat_tests}
use Rattle.std.specs.Prelude.{None, Option, Some, not, unwrap_or, ◌==◌, ◌&&◌, ◌||◌}
use Rattle.tierra_model.specs.declared.creatures.Block.{Block}
use Rattle.tierra_model.specs.declared.creatures.Creature.{Creature}
use Rattle.tierra_model.specs.Counting.{one_if, times_in}
use Rattle.tierra_model.specs.Blocks.{is_in, is_in_daughter}
use Rattle.tierra_model.specs.FreeList.{is_in_some, runs_of}
use Rattle.tierra_model.specs.Living.{ids_of, nobody, one_of, with_record, without}
use Rattle.tierra_model.specs.Room.{holds}
use Rattle.tierra_model.specs.Sound.{owners, owners_of}
use Rattle.tierra_model.proofs.Owners.{ids_of-append, is_here-times, sum_of-append, sum_of-with, sum_of-without, times_in-append}
use Rattle.tierra_model.proofs.Living.{find-append}
use Rattle.block_alloc.specs.Blocks.{BlocksFields}
use Rattle.census.specs.declared.Census.{Census}
use Rattle.census.specs.Census.{living_of}
use Rattle.world_core.specs.Running.{number_with}
use Rattle.world_core.specs.Tied.{AreTied}
use Rattle.world_core.proofs.Ownership.{free-died, free-given_back, free-same, free-taken}

-- a creature of the living, whose record is put in: it has the same genotype
pub record Puts (living : List Creature) (before after : Creature) : Type 0 where
  pub here : 0 < times_in (ids_of living) after.id
  pub once : (id : ℕ) → times_in (ids_of living) id ≤ 1
  pub found : one_of living after.id ≡ before
  pub own : after.own ≡ before.own
  pub genotype : after.genotype ≡ before.genotype

owners-puts : (living : List Creature) (b a : Creature) (p : ℕ) → Puts living b a
    → owners (with_record a living) p + owners_of b p ≡ owners living p + owners_of a p
owners-puts living b a p h =
    sym (ap (λ (c : Creature). owners (with_record a living) p + owners_of c p) h.found)
    ∙ sum_of-with (λ d. owners_of d p) a living (is_here-times living a.id h.here) (h.once a.id)

own-puts : (b a : Creature) (p : ℕ) → a.own ≡ b.own → one_if (is_in a.own p) ≡ one_if (is_in b.own p)
own-puts b a p e = ap (λ (x : Block). one_if (is_in x p)) e

daughter-is : (c : Creature) (o : Option Block) (p : ℕ) → c.daughter ≡ o → one_if (is_in_daughter c.daughter p) ≡ one_if (is_in_daughter o p)
daughter-is c o p e = ap (λ (x : Option Block). one_if (is_in_daughter x p)) e

number-puts : (living : List Creature) (b a : Creature) (g : ℕ) → Puts living b a → number_with (with_record a living) g ≡ number_with living g
number-puts living b a g h =
    let put : number_with (with_record a living) g + one_if ((one_of living a.id).genotype == g) ≡ number_with living g + one_if (a.genotype == g)
    = sum_of-with (λ c. one_if (c.genotype == g)) a living (is_here-times living a.id h.here) (h.once a.id) in
    let same : one_if ((one_of living a.id).genotype == g) ≡ one_if (a.genotype == g)
    = ap (λ (c : Creature). one_if (c.genotype == g)) h.found ∙ ap (λ (k : ℕ). one_if (k == g)) (sym h.genotype) in
    omega arith

-- ---- the record of a creature

pub tied-put : (n : ℕ) (living : List Creature) (blocks : BlocksFields) (census : Census) (b a : Creature) → Puts living b a → a.daughter ≡ b.daughter
    → AreTied n living blocks census → AreTied n (with_record a living) blocks census
tied-put n living blocks census b a h d t =
    record {
      size = t.size;
      free = t.free ∙ free-same n living (with_record a living) (λ p.
          omega (arith, owners-puts living b a p h, own-puts b a p h.own, daughter-is a b.daughter p d));
      counts = λ g. t.counts g ∙ sym (number-puts living b a g h);
    }

-- it takes a daughter block
pub tied-taken : (n : ℕ) (living : List Creature) (blocks after : BlocksFields) (census : Census) (b a : Creature) (x : Block) → Puts living b a
    → b.daughter ≡ None → a.daughter ≡ Some x → after.size ≡ blocks.size
    → after.free ≡ runs_of blocks.size (λ p. is_in_some blocks.free p && not (is_in x p))
    → AreTied n living blocks census → AreTied n (with_record a living) after census
tied-taken n living blocks after census b a x h none some size free t =
    record {
      size = size ∙ t.size;
      free = free ∙ (λ i. runs_of (t.size i) (λ p. is_in_some (t.free i) p && not (is_in x p)))
          ∙ free-taken n living (with_record a living) x (λ p.
          omega (arith, owners-puts living b a p h, own-puts b a p h.own, daughter-is b None p none, daughter-is a (Some x) p some));
      counts = λ g. t.counts g ∙ sym (number-puts living b a g h);
    }

-- it gives its daughter block up
pub tied-given_up : (n : ℕ) (living : List Creature) (blocks after : BlocksFields) (census : Census) (b a : Creature) (x : Block) → Puts living b a
    → b.daughter ≡ Some x → a.daughter ≡ None → ((p : ℕ) → owners living p ≤ 1) → after.size ≡ blocks.size
    → after.free ≡ runs_of blocks.size (λ p. is_in_some blocks.free p || is_in x p)
    → AreTied n living blocks census → AreTied n (with_record a living) after census
tied-given_up n living blocks after census b a x h some none apart size free t =
    record {
      size = size ∙ t.size;
      free = free ∙ (λ i. runs_of (t.size i) (λ p. is_in_some (t.free i) p || is_in x p))
          ∙ free-given_back n living (with_record a living) x (λ p.
          omega (arith, owners-puts living b a p h, own-puts b a p h.own, daughter-is b (Some x) p some, daughter-is a None p none)) apart;
      counts = λ g. t.counts g ∙ sym (number-puts living b a g h);
    }

-- ---- a death

pub tied-died : (n : ℕ) (living : List Creature) (blocks after : BlocksFields) (census counts : Census) (id : ℕ) (c : Creature)
    → 0 < times_in (ids_of living) id → ((k : ℕ) → times_in (ids_of living) k ≤ 1) → one_of living id ≡ c → ((p : ℕ) → owners living p ≤ 1)
    → after.size ≡ blocks.size → after.free ≡ runs_of blocks.size (λ p. is_in_some blocks.free p || holds c p)
    → ((g : ℕ) → living_of census g ≡ living_of counts g + one_if (c.genotype == g))
    → AreTied n living blocks census → AreTied n (without id living) after counts
tied-died n living blocks after census counts id c here once found apart size free fewer t =
    record {
      size = size ∙ t.size;
      free = free ∙ (λ i. runs_of (t.size i) (λ p. is_in_some (t.free i) p || holds c p))
          ∙ free-died n living (without id living) c (λ p.
          sym (ap (λ (d : Creature). owners (without id living) p + owners_of d p) found)
          ∙ sum_of-without (λ d. owners_of d p) living id (is_here-times living id here) (once id)) apart;
      counts = λ g.
          let gone : number_with (without id living) g + one_if (c.genotype == g) ≡ number_with living g
          = sym (ap (λ (d : Creature). number_with (without id living) g + one_if (d.genotype == g)) found)
          ∙ sum_of-without (λ d. one_if (d.genotype == g)) living id (is_here-times living id here) (once id) in
          omega (arith, t.counts g, fewer g);
    }

-- somebody has the genotype of one who lives
pub counted : (living : List Creature) (census : Census) (id : ℕ) (c : Creature) → 0 < times_in (ids_of living) id → ((k : ℕ) → times_in (ids_of living) k ≤ 1)
    → one_of living id ≡ c → ((g : ℕ) → living_of census g ≡ number_with living g) → 0 < living_of census c.genotype
counted living census id c here once found counts =
    let gone : number_with (without id living) c.genotype + one_if (c.genotype == c.genotype) ≡ number_with living c.genotype
    = sym (ap (λ (d : Creature). number_with (without id living) c.genotype + one_if (d.genotype == c.genotype)) found)
    ∙ sum_of-without (λ d. one_if (d.genotype == c.genotype)) living id (is_here-times living id here) (once id) in
    let one : one_if (c.genotype == c.genotype) ≡ 1 = itself c.genotype in
    omega (arith, counts c.genotype)
  where
    itself : (k : ℕ) → one_if (k == k) ≡ 1
    itself k = grind (arith, nat_tests)

-- no more than live
pub few_counted : (living : List Creature) (g : ℕ) → number_with living g ≤ length living
few_counted [] g = omega arith
few_counted (x ∷ xs) g = omega (arith, few_counted xs g, most (x.genotype == g))
  where
    most : (b : Bool) → one_if b ≤ 1
    most true = omega arith
    most false = omega arith

-- ---- a newcomer, whose block was taken before or is taken now

pub tied-entered : (n : ℕ) (living : List Creature) (blocks after : BlocksFields) (census counts : Census) (nb : Creature)
    → nb.daughter ≡ None → after.size ≡ blocks.size → after.free ≡ runs_of blocks.size (λ p. is_in_some blocks.free p && not (is_in nb.own p))
    → ((g : ℕ) → living_of counts g ≡ living_of census g + one_if (nb.genotype == g))
    → AreTied n living blocks census → AreTied n (living ++ nb ∷ []) after counts
tied-entered n living blocks after census counts nb none size free more t =
    record {
      size = size ∙ t.size;
      free = free ∙ (λ i. runs_of (t.size i) (λ p. is_in_some (t.free i) p && not (is_in nb.own p)))
          ∙ free-taken n living (living ++ nb ∷ []) nb.own
          (λ p. omega (arith, sum_of-append (λ d. owners_of d p) living (nb ∷ []), daughter-is nb None p none));
      counts = λ g. omega (arith, t.counts g, more g, sum_of-append (λ d. one_if (d.genotype == g)) living (nb ∷ []));
    }

-- a mother's daughter block becomes the newborn's own
pub tied-born : (n : ℕ) (living : List Creature) (blocks : BlocksFields) (census counts : Census) (b a nb : Creature) (x : Block)
    → Puts (living ++ nb ∷ []) b a → b.daughter ≡ Some x → a.daughter ≡ None → nb.own ≡ x → nb.daughter ≡ None
    → ((g : ℕ) → living_of counts g ≡ living_of census g + one_if (nb.genotype == g))
    → AreTied n living blocks census → AreTied n (with_record a (living ++ nb ∷ [])) blocks counts
tied-born n living blocks census counts b a nb x h some none own childless more t =
    record {
      size = t.size;
      free = t.free ∙ free-same n living (with_record a (living ++ nb ∷ [])) (λ p.
          omega (
            arith,
            owners-puts (living ++ nb ∷ []) b a p h,
            own-puts b a p h.own,
            daughter-is b (Some x) p some,
            daughter-is a None p none,
            ap (λ (k : Block). one_if (is_in k p)) own,
            daughter-is nb None p childless,
            sum_of-append (λ d. owners_of d p) living (nb ∷ []),
          ));
      counts = λ g. omega (arith, t.counts g, more g, number-puts (living ++ nb ∷ []) b a g h, sum_of-append (λ d. one_if (d.genotype == g)) living (nb ∷ []));
    }

-- ---- who was there before a newcomer

pub here-entered : (living : List Creature) (nb : Creature) (id : ℕ) → 0 < times_in (ids_of living) id → 0 < times_in (ids_of (living ++ nb ∷ [])) id
here-entered living nb id h = rw (ids_of-append living (nb ∷ [])) (omega (arith, times_in-append (ids_of living) (nb.id ∷ []) id))

pub one-entered : (living : List Creature) (nb : Creature) (id : ℕ) → 0 < times_in (ids_of living) id → one_of (living ++ nb ∷ []) id ≡ one_of living id
one-entered living nb id h = ap (λ (o : Option Creature). unwrap_or o nobody) (find-append living (nb ∷ []) id (is_here-times living id h))

pub puts-entered : (living : List Creature) (nb b a : Creature) → times_in (ids_of living) nb.id ≡ 0 → Puts living b a → Puts (living ++ nb ∷ []) b a
puts-entered living nb b a new h =
    record {
      here = here-entered living nb a.id h.here;
      once = λ id. rw (ids_of-append living (nb ∷ [])) (elim (eqb_tells nb.id id) [
        | inl e ↦ (let gone : times_in (ids_of living) id ≡ 0 = ap (times_in (ids_of living)) (sym e.1) ∙ new in
            omega (arith, times_in-append (ids_of living) (nb.id ∷ []) id, at_most (nb.id == id)))
        | inr e ↦ (let none : one_if (nb.id == id) ≡ 0 = ap one_if e.0 in omega (arith, times_in-append (ids_of living) (nb.id ∷ []) id, h.once id))
      ]);
      found = one-entered living nb a.id h.here ∙ h.found;
      own = h.own;
      genotype = h.genotype;
    }
  where
    at_most : (b : Bool) → one_if b ≤ 1
    at_most true = omega arith
    at_most false = omega arith
