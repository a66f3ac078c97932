-- After a step another can be executed.
use Rattle.std.proofs.Common.{◌≡◌, ℕ, ◌+◌, ◌<◌, ◌≤◌, Bool, true, false, refl, sym, ◌∙◌, subst, arith}
use Rattle.std.specs.Prelude.{if◌then◌else◌, ◌==◌, ◌||◌}
use Rattle.tierra_model.specs.declared.creatures.Creature.{Creature}
use Rattle.tierra_model.specs.declared.events.Act.{Act}
use Rattle.tierra_model.specs.declared.events.Act.TheVariants as act
use Rattle.tierra_model.specs.declared.parameters.Settings.{Settings}
use Rattle.tierra_model.specs.Blocks.{is_in, is_in_daughter}
use Rattle.tierra_model.specs.Look.{pass}
use Rattle.tierra_model.specs.Step.{Outcome, step}
use Rattle.tierra_model.proofs.Records.{Always, CanDo, Keeps, step_keeps}
use Rattle.tierra_model.proofs.Shares.{Shares}
use Rattle.tierra_model.proofs.Steps.{Steps, step_steps}
use Rattle.mutation_streams.specs.Draws.{DrawFields}
use Rattle.cpu_core.specs.Draws.{with_rates_of}
use Rattle.cpu_core.specs.Executing.{Executes, IsAfterStep, CanExecute, creature_after, view_after}
use Rattle.cpu_core.proofs.Counting.{Counts, WritesOwn, step_counts}
use Rattle.cpu_core.proofs.Looking.{pass-always, pass-keeps, step_below}

below_either : (b : Bool) (x y n : ℕ) → x < n → y < n → (if b then x else y) < n
below_either true x y n h k = h
below_either false x y n h k = k

module _ {S : Type 0} (size_of : S → ℕ) (cells : S → ℕ → ℕ) (writable : S → ℕ → Bool) (looked : S → ℕ → S) (written : S → ℕ → ℕ → S)
    (look_size : (v : S) (p : ℕ) → size_of (looked v p) ≡ size_of v)
    (look_cells : (v : S) (p q : ℕ) → cells (looked v p) q ≡ cells v q)
    (look_writable : (v : S) (p q : ℕ) → writable (looked v p) q ≡ writable v q)
    (write_size : (v : S) (p x : ℕ) → p < size_of v → writable v p ≡ true → x < 32 → size_of (written v p x) ≡ size_of v)
    (write_cell : (v : S) (p x q : ℕ) → p < size_of v → writable v p ≡ true → x < 32 → q < size_of v
    → cells (written v p x) q ≡ (if q == p then x else cells v q))
    (write_writable : (v : S) (p x q : ℕ) → p < size_of v → writable v p ≡ true → x < 32 → writable (written v p x) q ≡ writable v q) where
  abbrev Ready : Settings → Creature → S → Type 0
  Ready = CanExecute size_of cells writable

  -- a write to a cell of the creature's own
  wrote_ready : (s : Settings) (c : Creature) (v : S) (at value : ℕ) → at < s.soup_size → value < 32 → (is_in c.own at || is_in_daughter c.daughter at) ≡ true
      → Ready s c v → Ready s c (written v at value)
  wrote_ready s c v at value h k own r =
      let here : at < size_of v = omega (arith, r.size) in
      let may : writable v at ≡ true = r.own at h ∙ own in
      record {
        size = write_size v at value here may k ∙ r.size;
        codes = λ p below. subst (λ x. x < 32) (sym (write_cell v at value p here may k (omega (arith, r.size))))
            (below_either (p == at) value (cells v p) 32 k (r.codes p below));
        own = λ p below. write_writable v at value p here may k ∙ r.own p below;
        ip = r.ip;
        sp = r.sp;
      }

  after_act-ready : (s : Settings) (c : Creature) (v : S) (a : Act) → CanDo s c a → WritesOwn c a → Ready s c v
      → Ready s (creature_after a c) (view_after written a v)
  after_act-ready s c v act.Plain can own r = r
  after_act-ready s c v (act.Wrote at value) can own r = wrote_ready s c v at value can.0 can.1 own r
  after_act-ready s c v act.Erred can own r = record { size = r.size; codes = r.codes; own = r.own; ip = r.ip; sp = r.sp }
  after_act-ready s c v (act.Mal size) can own r = r
  after_act-ready s c v act.Divide can own r = r

  creature_after-is_after : (b c : Creature) (a : Act) → Shares b c → c.ran ≡ b.ran + 1 → c.moved ≤ b.moved + 1 → IsAfterStep b (creature_after a c)
  creature_after-is_after b c act.Plain k ran moved =
      record { id = k.id; own = k.own; daughter = k.daughter; genotype = k.genotype; bred = k.bred; ran = ran; moved = moved; errors = omega (arith, k.errors) }
  creature_after-is_after b c (act.Wrote at value) k ran moved =
      record { id = k.id; own = k.own; daughter = k.daughter; genotype = k.genotype; bred = k.bred; ran = ran; moved = moved; errors = omega (arith, k.errors) }
  creature_after-is_after b c act.Erred k ran moved =
      record { id = k.id; own = k.own; daughter = k.daughter; genotype = k.genotype; bred = k.bred; ran = ran; moved = moved; errors = omega (arith, k.errors) }
  creature_after-is_after b c (act.Mal size) k ran moved =
      record { id = k.id; own = k.own; daughter = k.daughter; genotype = k.genotype; bred = k.bred; ran = ran; moved = moved; errors = omega (arith, k.errors) }
  creature_after-is_after b c act.Divide k ran moved =
      record { id = k.id; own = k.own; daughter = k.daughter; genotype = k.genotype; bred = k.bred; ran = ran; moved = moved; errors = omega (arith, k.errors) }

  writes_own : (b c : Creature) (a : Act) → c.own ≡ b.own → c.daughter ≡ b.daughter → WritesOwn b a → WritesOwn c a
  writes_own b c act.Plain own daughter w = tt
  writes_own b c (act.Wrote at value) own daughter w = (λ i. is_in (own i) at || is_in_daughter (daughter i) at) ∙ w
  writes_own b c act.Erred own daughter w = tt
  writes_own b c (act.Mal size) own daughter w = tt
  writes_own b c act.Divide own daughter w = tt

  module _ (d : DrawFields) (s : Settings) (draw : ℕ → ℕ) (i : ℕ) (c e : Creature) (v u : S) (a : Act)
      (ready : Ready s c v) (executes : Executes cells looked written (step (with_rates_of d s) draw i c) v u e a) where
    abbrev drawn : Settings
    drawn = with_rates_of d s

    abbrev taken : S × Outcome
    taken = pass cells looked (step drawn draw i c) v

    always : (P : Outcome → Type 0) → Always P (step drawn draw i c) → P taken.1
    always P h = pass-always cells looked P s.soup_size (step drawn draw i c) v look_cells ready.codes (step_below drawn draw i c ready.ip) h

    keeps : Keeps drawn c taken.1
    keeps = always (Keeps drawn c)
        (step_keeps drawn draw i c c (record { id = refl; own = refl; daughter = refl; errors = refl; genotype = refl; bred = refl }))

    steps : Steps s.soup_size (c.moved + c.ran + 1) taken.1
    steps = always (Steps s.soup_size (c.moved + c.ran + 1)) (step_steps drawn draw i (c.moved + c.ran) c (ready.ip, ready.sp, omega arith, omega arith))

    counts : Counts (c.ran + 1) (c.moved + 1) c taken.1
    counts = always (Counts (c.ran + 1) (c.moved + 1) c) (step_counts drawn draw i c)

    taken_ready : Ready drawn taken.1.0 taken.0
    taken_ready =
        record {
          size = pass-keeps cells looked size_of look_size (step drawn draw i c) v ∙ ready.size;
          codes = λ p below. subst (λ x. x < 32) (sym (pass-keeps cells looked (λ w. cells w p) (λ w q. look_cells w q p) (step drawn draw i c) v))
              (ready.codes p below);
          own = λ p below.
              pass-keeps cells looked (λ w. writable w p) (λ w q. look_writable w q p) (step drawn draw i c) v
              ∙ ready.own p below
              ∙ (λ j. is_in (sym keeps.0.own j) p || is_in_daughter (sym keeps.0.daughter j) p);
          ip = steps.0;
          sp = steps.1;
        }

    pub still_ready : Ready s e u
    still_ready =
        let r : Ready drawn (creature_after taken.1.1 taken.1.0) (view_after written taken.1.1 taken.0) =
        after_act-ready drawn taken.1.0 taken.0 taken.1.1 keeps.1 (writes_own c taken.1.0 taken.1.1 keeps.0.own keeps.0.daughter counts.2) taken_ready in
        subst (λ (x : S × Outcome). Ready s x.1.0 x.0) executes (record { size = r.size; codes = r.codes; own = r.own; ip = r.ip; sp = r.sp })

    pub is_after : IsAfterStep c e
    is_after = subst (λ (x : S × Outcome). IsAfterStep c x.1.0) executes (creature_after-is_after c taken.1.0 taken.1.1 keeps.0 counts.0 counts.1)
