-- A quantum keeps the codes and parents of genotypes and what was saved, and what it saves is of its own number.
use Rattle.std.proofs.Common.{◌≡◌, ℕ, zero, suc, ◌+◌, ◌<◌, ◌≤◌, Bool, true, false, List, [], ◌∷◌, ◌++◌, refl, sym, ◌∙◌, ap, arith, length, length-append}
use Rattle.std.specs.Prelude.{Some, None, Option, All, ◌==◌, if◌then◌else◌, slice_range}
use Rattle.std.proofs.lemmas.List.Elements.{All-nil, All-cons, All-append}
use Rattle.tierra_model.specs.declared.parameters.Settings.{Settings}
use Rattle.tierra_model.specs.declared.creatures.Block.{Block}
use Rattle.tierra_model.specs.declared.creatures.Creature.{Creature}
use Rattle.tierra_model.specs.declared.creatures.Effort.{Effort}
use Rattle.tierra_model.specs.declared.events.Event.{Event}
use Rattle.tierra_model.specs.declared.events.Event.TheVariants as event
use Rattle.tierra_model.specs.Quantum.{world_machine, run}
use Rattle.tierra_model.specs.World.{World, Genotype, Saving, front, put, genotype_at}
use Rattle.tierra_model.specs.Individuals.{with_individual, genotype_number, with_one_more, with_effort_of, genotypes_at_birth}
use Rattle.tierra_model.specs.Events.{apply_event, record_after, with_birth}
use Rattle.std.proofs.lemmas.List.{append-nil, append_assoc}
use Rattle.tierra_model.proofs.Operations.{EachOperation, each-run}
use Rattle.tierra_model.proofs.Genotypes.{length-with_one_more, code-with_one_more, genotype_at-append}
use Rattle.tierra_model.proofs.Efforts.{length-with_effort_of, code-with_effort_of}

-- ---- genotypes

-- the genotypes of the first list are in the second, with their codes and parents
pub record Extends (gs hs : List Genotype) : Type 0 where
  pub longer : length gs ≤ length hs
  pub codes : (j : ℕ) → j < length gs → (genotype_at hs j).code ≡ (genotype_at gs j).code
  pub parents : (j : ℕ) → j < length gs → (genotype_at hs j).parent ≡ (genotype_at gs j).parent

extends-trans : (fs gs hs : List Genotype) → Extends fs gs → Extends gs hs → Extends fs hs
extends-trans fs gs hs a b =
    record {
      longer = omega (arith, a.longer, b.longer);
      codes = λ j h. b.codes j (omega (arith, a.longer)) ∙ a.codes j h;
      parents = λ j h. b.parents j (omega (arith, a.longer)) ∙ a.parents j h;
    }

parent-with_one_more : (k : ℕ) (gs : List Genotype) (j : ℕ) → (genotype_at (with_one_more k gs) j).parent ≡ (genotype_at gs j).parent
parent-with_one_more k [] j = refl
parent-with_one_more zero (g ∷ gs) zero = refl
parent-with_one_more zero (g ∷ gs) (suc j) = refl
parent-with_one_more (suc k) (g ∷ gs) zero = refl
parent-with_one_more (suc k) (g ∷ gs) (suc j) = parent-with_one_more k gs j

parent-with_effort_of : (k bred : ℕ) (e : Effort) (gs : List Genotype) (j : ℕ) → (genotype_at (with_effort_of k bred e gs) j).parent ≡ (genotype_at gs j).parent
parent-with_effort_of k bred e [] j = refl
parent-with_effort_of zero bred e (g ∷ gs) zero = refl
parent-with_effort_of zero bred e (g ∷ gs) (suc j) = refl
parent-with_effort_of (suc k) bred e (g ∷ gs) zero = refl
parent-with_effort_of (suc k) bred e (g ∷ gs) (suc j) = parent-with_effort_of k bred e gs j

extends-with_effort_of : (k bred : ℕ) (e : Effort) (gs : List Genotype) → Extends gs (with_effort_of k bred e gs)
extends-with_effort_of k bred e gs =
    record {
      longer = omega (arith, length-with_effort_of k bred e gs);
      codes = λ j h. code-with_effort_of k bred e gs j;
      parents = λ j h. parent-with_effort_of k bred e gs j;
    }

extends-with_individual : (gs : List Genotype) (code : List ℕ) (parent : Option ℕ) (q : ℕ) → Extends gs (with_individual gs code parent q).0
unfolding with_individual
extends-with_individual gs code parent q = go (genotype_number code gs)
  where
    g : Genotype
    g = record { code = code; parent = parent; first_quantum = q; total = 1; first_effort = None; second_effort = None }

    after : Option ℕ → List Genotype × ℕ
    after o = elim o [ None ↦ (gs ++ g ∷ [], length gs) | Some k ↦ (with_one_more k gs, k) ]

    go : (o : Option ℕ) → Extends gs (after o).0
    go None =
        record {
          longer = omega (arith, length-append gs (g ∷ []));
          codes = λ j h. ap (λ (x : Genotype). x.code) (genotype_at-append gs (g ∷ []) j h);
          parents = λ j h. ap (λ (x : Genotype). x.parent) (genotype_at-append gs (g ∷ []) j h);
        }
    go (Some k) =
        record {
          longer = omega (arith, length-with_one_more k gs);
          codes = λ j h. code-with_one_more k gs j;
          parents = λ j h. parent-with_one_more k gs j;
        }

-- ---- worlds

abbrev pub SavedIn : ℕ → Saving → Type 0
SavedIn q s = s.quantum ≡ q

-- w became v in quantum q
pub record AddsSavings (q : ℕ) (w v : World) : Type 0 where
  pub number : v.quanta + 1 ≡ q
  pub genotypes : Extends w.genotypes v.genotypes
  pub added : List Saving
  pub saved : v.saved ≡ w.saved ++ added
  pub new : All (SavedIn q) added

pub adds-none : (q : ℕ) (w : World) → w.quanta + 1 ≡ q → AddsSavings q w w
adds-none q w e =
    record {
      number = e;
      genotypes = record { longer = omega arith; codes = λ j h. refl; parents = λ j h. refl };
      added = [];
      saved = sym (append-nil w.saved);
      new = All-nil (SavedIn q);
    }

adds-put : (q : ℕ) (c : Creature) (w u : World) → AddsSavings q w u → AddsSavings q w (put c u)
adds-put q c w u g = record { number = g.number; genotypes = g.genotypes; added = g.added; saved = g.saved; new = g.new }

if_append : {X : Type 0} (b : Bool) (xs : List X) (x : X) → (if b then xs ++ x ∷ [] else xs) ≡ xs ++ (if b then x ∷ [] else [])
if_append true xs x = refl
if_append false xs x = sym (append-nil xs)

if_in : (q : ℕ) (b : Bool) (s : Saving) → s.quantum ≡ q → All (SavedIn q) (if b then s ∷ [] else [])
if_in q true s h = All-cons (SavedIn q) s [] h (All-nil (SavedIn q))
if_in q false s h = All-nil (SavedIn q)

adds-with_birth : (q ran moved : ℕ) (o : Option Block) (w u : World) → AddsSavings q w u
    → AddsSavings q w (put (record_after (event.Divide ran moved) (front u))
    (with_birth (genotypes_at_birth (front u) ran moved u.genotypes) o (front u).genotype u))
adds-with_birth q ran moved None w u g = adds-put q (record_after (event.Divide ran moved) (front u)) w u g
adds-with_birth q ran moved (Some b) w u g =
    let mother : Creature = front u in
    let effort : Effort = record { ran = ran; moved = moved } in
    let code : List ℕ = slice_range u.soup b.at (b.at + b.size) in
    let known : List Genotype = genotypes_at_birth mother ran moved u.genotypes in
    let gs : List Genotype = (with_individual known code (Some mother.genotype) (u.quanta + 1)).0 in
    let j : ℕ = (with_individual known code (Some mother.genotype) (u.quanta + 1)).1 in
    let x : Genotype = genotype_at gs j in
    let due : Bool = x.total == u.settings.save_at in
    let s : Saving = record { genotype = j; quantum = u.quanta + 1; first_effort = x.first_effort; second_effort = x.second_effort } in
    let more : List Saving = if due then s ∷ [] else [] in
    record {
      number = g.number;
      genotypes = extends-trans w.genotypes known gs (extends-trans w.genotypes u.genotypes known g.genotypes
          (extends-with_effort_of mother.genotype (mother.bred + 1) effort u.genotypes))
          (extends-with_individual known code (Some mother.genotype) (u.quanta + 1));
      added = g.added ++ more;
      saved = if_append due u.saved s ∙ ap (λ (l : List Saving). l ++ more) g.saved ∙ append_assoc w.saved g.added more;
      new = All-append (SavedIn q) g.added more g.new (if_in q due s g.number);
    }

adds-event : (q : ℕ) (w u : World) (e : Event) → AddsSavings q w u → AddsSavings q w (apply_event u e)
unfolding apply_event
adds-event q w u (event.Divide ran moved) g = adds-with_birth q ran moved (front u).daughter w u g
adds-event q w u _ g = record { number = g.number; genotypes = g.genotypes; added = g.added; saved = g.saved; new = g.new }

-- ---- a quantum

each_operation : (q : ℕ) (w : World) → EachOperation world_machine (λ u v. AddsSavings q w u → AddsSavings q w v)
each_operation q w =
    record {
      none = λ u g. g;
      next = λ u v x f g h. g (f h);
      put = λ c u g. adds-put q c w u g;
      look = λ p u g. g;
      ask_free = λ u g. g;
      ask_reaper = λ u g. g;
      apply = λ e u g. adds-event q w u e g;
    }

pub adds-run : (s : Settings) (q k : ℕ) (w : World) → w.quanta + 1 ≡ q → AddsSavings q w (run world_machine s q k w)
adds-run s q k w e = each-run world_machine s (λ u v. AddsSavings q w u → AddsSavings q w v) (each_operation q w) q k w (adds-none q w e)
