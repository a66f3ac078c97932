-- A world's words and numbers stay in the ranges of their types as events happen.
use Rattle.std.proofs.Common.{ℕ, zero, suc, ◌+◌, ◌^◌, ◌<◌, ◌≤◌, Bool, true, false, cond, List, [], ◌∷◌, ◌++◌, arith, length, refl}
use Rattle.std.specs.Prelude.{None, Option, Some, pos, ◌==◌, find, unwrap_or}
use Rattle.std.proofs.lemmas.Bool.{cond_both}
use Rattle.std.proofs.lemmas.List.Elements.{All-replicate}
use Rattle.byte_fields.specs.Writing.{IsLongEffort}
use Rattle.tierra_model.specs.declared.creatures.Block.{Block}
use Rattle.tierra_model.specs.declared.creatures.Creature.{Creature}
use Rattle.tierra_model.specs.declared.creatures.Effort.{Effort}
use Rattle.tierra_model.specs.declared.events.Event.{Event}
use Rattle.tierra_model.specs.declared.events.Event.TheVariants as event
use Rattle.tierra_model.specs.Blocks.{no_block}
use Rattle.tierra_model.specs.Events.{apply_event, record_after, with_birth, with_creature}
use Rattle.tierra_model.specs.Individuals.{first_of_both, genotype_number, genotypes_at_birth, savings_after, with_effort_of, with_individual, with_one_more}
use Rattle.tierra_model.specs.Living.{newborn, nobody, one_of}
use Rattle.tierra_model.specs.World.{Genotype, Saving, World, first_of, front, genotype_at, put}
use Rattle.tierra_model.proofs.Each.{Each, each-append, each-map, each-with, each-without}
use Rattle.world_state.specs.Restoring.{HasLongNumbers}
use Rattle.soup_hold.proofs.StepWords.{Counted, IsWord, place_fits, with_ax, with_flag}

-- ---- creatures

pub born_counted : (m id : ℕ) (own : Block) (k : ℕ) → Counted m (newborn id own k)
born_counted m id own k = (
  record { ax = zero_fits; bx = zero_fits; cx = zero_fits; dx = zero_fits; ten = refl; stack = All-replicate IsWord 10 (pos 0) zero_fits; byte = omega arith },
  omega arith,
  omega arith,
)
  where
    zero_fits : IsWord (pos 0)
    zero_fits = place_fits 0 (omega arith)

one_counted : (m : ℕ) (living : List Creature) (id : ℕ) → Each (Counted m) living → Counted m (one_of living id)
one_counted m [] id h = born_counted m 0 no_block 0
one_counted m (c ∷ cs) id h =
    cond_both (c.id == id) (Some c) (find (λ c. c.id == id) cs) (λ o. Counted m (unwrap_or o nobody)) (λ e. h.0) (λ e. one_counted m cs id h.1)

counted-weaker : (m n : ℕ) (c : Creature) → m ≤ n → Counted m c → Counted n c
counted-weaker m n c le h = (h.0, omega (arith, h.1), omega (arith, h.2))

-- ---- genotypes

abbrev pub IsLongSaving : Saving → Type 0
IsLongSaving s = IsLongEffort s.first_effort × IsLongEffort s.second_effort

long_at : (gs : List Genotype) (k : ℕ) → Each HasLongNumbers gs → HasLongNumbers (genotype_at gs k)
long_at [] k h = (omega arith, tt, tt)
long_at (g ∷ gs) zero h = h.0
long_at (g ∷ gs) (suc k) h = long_at gs k h.1

long_effort : (b : Bool) (o : Option Effort) (e : Effort) → e.ran < 2 ^ 64 → e.moved < 2 ^ 64 → IsLongEffort o
    → IsLongEffort (cond b (first_of_both o e) o)
long_effort true None e ran moved h = (ran, moved)
long_effort true (Some d) e ran moved h = h
long_effort false o e ran moved h = h

long-with_effort_of : (k bred : ℕ) (e : Effort) (gs : List Genotype) → e.ran < 2 ^ 64 → e.moved < 2 ^ 64 → Each HasLongNumbers gs
    → Each HasLongNumbers (with_effort_of k bred e gs)
long-with_effort_of k bred e [] ran moved h = tt
long-with_effort_of zero bred e (g ∷ gs) ran moved h =
    ((h.0.0, long_effort (bred == 1) g.first_effort e ran moved h.0.1, long_effort (bred == 2) g.second_effort e ran moved h.0.2), h.1)
long-with_effort_of (suc k) bred e (g ∷ gs) ran moved h = (h.0, long-with_effort_of k bred e gs ran moved h.1)

long-with_one_more : (k : ℕ) (gs : List Genotype) → Each HasLongNumbers gs → Each HasLongNumbers (with_one_more k gs)
long-with_one_more k [] h = tt
long-with_one_more zero (g ∷ gs) h = ((h.0.0, h.0.1, h.0.2), h.1)
long-with_one_more (suc k) (g ∷ gs) h = (h.0, long-with_one_more k gs h.1)

long-with_individual : (gs : List Genotype) (code : List ℕ) (parent : Option ℕ) (q : ℕ) → q < 2 ^ 64 → Each HasLongNumbers gs
    → Each HasLongNumbers (with_individual gs code parent q).0
unfolding with_individual
long-with_individual gs code parent q small h = go (genotype_number code gs)
  where
    g : Genotype
    g = record { code = code; parent = parent; first_quantum = q; total = 1; first_effort = None; second_effort = None }

    after : Option ℕ → List Genotype × ℕ
    after o = elim o [ None ↦ (gs ++ g ∷ [], length gs) | Some k ↦ (with_one_more k gs, k) ]

    go : (o : Option ℕ) → Each HasLongNumbers (after o).0
    go None = each-append HasLongNumbers gs (g ∷ []) h ((small, tt, tt), tt)
    go (Some k) = long-with_one_more k gs h

long-savings : (save_at : ℕ) (gs : List Genotype) (k q : ℕ) (saved : List Saving) → Each HasLongNumbers gs → Each IsLongSaving saved
    → Each IsLongSaving (savings_after save_at gs k q saved)
long-savings save_at gs k q saved h s =
    let g : Genotype = genotype_at gs k in
    let long : HasLongNumbers g = long_at gs k h in
    let one : Saving = record { genotype = k; quantum = q; first_effort = g.first_effort; second_effort = g.second_effort } in
    cond_both (g.total == save_at) (saved ++ one ∷ []) saved (Each IsLongSaving)
    (λ e. each-append IsLongSaving saved (one ∷ []) s ((long.1, long.2), tt)) (λ e. s)

-- ---- a world

-- the words and numbers of a world are in their ranges, and no creature copied or ran more than m
pub record Fitting (m : ℕ) (living : List Creature) (genotypes : List Genotype) (saved : List Saving) (quanta : ℕ) : Type 0 where
  pub creatures : Each (Counted m) living
  pub long : Each HasLongNumbers genotypes
  pub savings : Each IsLongSaving saved
  pub number : quanta + 1 < 2 ^ 64

abbrev pub FittingIn : ℕ → World → Type 0
FittingIn m w = Fitting m w.living w.genotypes w.saved w.quanta

pub front_counted : (m : ℕ) (w : World) → FittingIn m w → Counted m (front w)
front_counted m w d = one_counted m w.living (first_of w.slicer) d.creatures

pub fitting-put : (c : Creature) (m : ℕ) (w : World) → Counted m c → FittingIn m w → FittingIn m (put c w)
fitting-put c m w h d =
    record { creatures = each-with (Counted m) c w.living h d.creatures; long = d.long; savings = d.savings; number = d.number }

pub fitting-weaker : (m n : ℕ) (w : World) → m ≤ n → FittingIn m w → FittingIn n w
fitting-weaker m n w le d = record {
  creatures = each-map (Counted m) (Counted n) (λ c h. counted-weaker m n c le h) w.living d.creatures;
  long = d.long;
  savings = d.savings;
  number = d.number;
}

pub fitting-with_creature : (known : List Genotype) (own : Block) (code : List ℕ) (parent : Option ℕ) (q m : ℕ) (w : World) → q < 2 ^ 64
    → Each HasLongNumbers known → FittingIn m w → FittingIn m (with_creature known own code parent q w)
fitting-with_creature known own code parent q m w small h d =
    let gs : List Genotype = (with_individual known code parent q).0 in
    let k : ℕ = (with_individual known code parent q).1 in
    let long : Each HasLongNumbers gs = long-with_individual known code parent q small h in
    record {
      creatures = each-append (Counted m) w.living (newborn w.next_birth own k ∷ []) d.creatures (born_counted m w.next_birth own k, tt);
      long = long;
      savings = long-savings w.settings.save_at gs k q w.saved long d.savings;
      number = d.number;
    }

-- ---- an event

-- the numbers that an event brings are in their ranges
abbrev pub EventFits : Event → Type 0
EventFits (event.Mal at size) = at < 2 ^ 31
EventFits (event.Divide ran moved) = (ran < 2 ^ 64) × (moved < 2 ^ 64)
EventFits v = Unit {0}

after_counted : (v : Event) (m : ℕ) (c : Creature) → EventFits v → Counted m c → Counted m (record_after v c)
after_counted (event.Write at value) m c f h = h
after_counted event.Err m c f h = (with_flag h.0 1 (omega arith), h.1, h.2)
after_counted event.Good m c f h = h
after_counted event.GiveUp m c f h = (h.0, omega arith, h.2)
after_counted (event.Mal at size) m c f h = (with_ax h.0 (pos at) (place_fits at f), omega arith, h.2)
after_counted (event.Reap place) m c f h = h
after_counted (event.Divide ran moved) m c f h = (h.0, omega arith, omega arith)

fitting-after : (v : Event) (m : ℕ) (w : World) → EventFits v → FittingIn m w → FittingIn m (put (record_after v (front w)) w)
fitting-after v m w f d = fitting-put (record_after v (front w)) m w (after_counted v m (front w) f (front_counted m w d)) d

fitting-with_birth : (known : List Genotype) (daughter : Option Block) (parent m : ℕ) (w : World) → Each HasLongNumbers known → FittingIn m w
    → FittingIn m (with_birth known daughter parent w)
fitting-with_birth known None parent m w h d = d
fitting-with_birth known (Some b) parent m w h d = fitting-with_creature known b _ (Some parent) (w.quanta + 1) m w d.number h d

pub fitting-event : (v : Event) (m : ℕ) (w : World) → EventFits v → FittingIn m w → FittingIn m (apply_event w v)
unfolding apply_event
fitting-event (event.Write at value) m w f d = d
fitting-event event.Err m w f d = fitting-after event.Err m w f d
fitting-event event.Good m w f d = d
fitting-event event.GiveUp m w f d = fitting-after event.GiveUp m w f d
fitting-event (event.Mal at size) m w f d = fitting-after (event.Mal at size) m w f d
fitting-event (event.Reap place) m w f d =
    record { creatures = each-without (Counted m) _ w.living d.creatures; long = d.long; savings = d.savings; number = d.number }
fitting-event (event.Divide ran moved) m w f d =
    let mother : Creature = front w in
    let known : List Genotype = genotypes_at_birth mother ran moved w.genotypes in
    let e : Effort = record { ran = ran; moved = moved } in
    let long : Each HasLongNumbers known = long-with_effort_of mother.genotype (mother.bred + 1) e w.genotypes f.0 f.1 d.long in
    fitting-put (record_after (event.Divide ran moved) mother) m (with_birth known mother.daughter mother.genotype w)
    (after_counted (event.Divide ran moved) m mother f (front_counted m w d))
    (fitting-with_birth known mother.daughter mother.genotype m w long d)
