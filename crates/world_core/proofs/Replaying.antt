-- Events done one after another, of which some are left.
use Rattle.std.proofs.Common.{◌≡◌, ℕ, suc, ◌+◌, ◌*◌, ◌^◌, ◌<◌, ◌≤◌, true, List, [], ◌∷◌, ◌++◌, refl, sym, ◌∙◌, ap, subst, arith, drop, length}
use Rattle.std.proofs.Math.Seq.{drop-append_seam}
use Rattle.tierra_model.specs.declared.events.Event.{Event}
use Rattle.tierra_model.specs.declared.events.Event.TheVariants as event
use Rattle.tierra_model.specs.Counting.{sum_of}
use Rattle.tierra_model.specs.World.{World}
use Rattle.tierra_model.specs.Sound.{IsSound, count_limit}
use Rattle.tierra_model.specs.Events.{apply_event}
use Rattle.tierra_model.specs.Replay.{CanAllHappen, after_events}
use Rattle.tierra_model.specs.SceneRun.{births_of}
use Rattle.tierra_model.proofs.Sound.{within-start}
use Rattle.tierra_model.proofs.WithinQuantum.{Adds, WithinQuantum, within-event}
use Rattle.tierra_model.proofs.WithinRun.{within-weaker}
use Rattle.world_core.specs.Running.{IsRunning, KeepsReady, WorldFields, can_be_set}
use Rattle.world_core.specs.Prepared.{CanWrite, CanWriteAll, HasRoomFor, blocks_of, code_born, codes_born}
use Rattle.world_core.proofs.Within.{running-within}

-- ---- cells that can be set

can_write-kept : (e : Event) (h k : WorldFields) → ((p : ℕ) → can_be_set h p ≡ true → can_be_set k p ≡ true) → CanWrite h e → CanWrite k e
can_write-kept (event.Write at value) h k kept c = kept at c
can_write-kept _ h k kept c = c

pub can_write_all-kept : (es : List Event) (h k : WorldFields) → ((p : ℕ) → can_be_set h p ≡ true → can_be_set k p ≡ true) → CanWriteAll h es → CanWriteAll k es
can_write_all-kept [] h k kept c = tt
can_write_all-kept (e ∷ es) h k kept c = (can_write-kept e h k kept c.0, can_write_all-kept es h k kept c.1)

-- ---- done events

abbrev limit : World → ℕ
limit w = count_limit w.quanta

-- k of the events are done since the world was w0, and the others are left
pub record Doing (w0 : World) (all : List Event) (k : ℕ) (left : List Event) (codes : List (List ℕ)) (h : WorldFields) : Type 0 where
  pub same : after_events h.world left ≡ after_events w0 all
  pub can : CanAllHappen h.world left
  pub few : k + length left < 2 ^ 31
  pub past : w0.quanta ≤ 4000000
  pub within : WithinQuantum w0.settings (limit w0 + k) (limit w0) (limit w0 + k) (20100 * k) (w0.quanta + 1) h.world
  pub newborns : codes ≡ codes_born h.world left
  pub cells : CanWriteAll h left
  pub births : sum_of births_of left ≤ h.births
  pub blocks : sum_of blocks_of left ≤ h.blocks

pub doing-none : (h : WorldFields) (events : List Event) (codes : List (List ℕ)) → IsSound h.world → CanAllHappen h.world events → HasRoomFor events codes h
    → Doing h.world events 0 events codes h
doing-none h events codes s can r =
    record {
      same = refl;
      can = can;
      few = omega (arith, r.few);
      past = s.quanta;
      within = within-weaker h.world.settings (limit h.world) (limit h.world) (limit h.world) 0 (h.world.quanta + 1) (limit h.world + 0) (limit h.world)
          (limit h.world + 0) (20100 * 0) h.world
          (omega arith) (omega arith) (omega arith) (omega arith) (within-start h.world s);
      newborns = r.newborns;
      cells = r.cells;
      births = r.births;
      blocks = r.blocks;
    }

pub doing-runs : (w0 : World) (all : List Event) (k : ℕ) (left : List Event) (codes : List (List ℕ)) (h : WorldFields) → Doing w0 all k left codes h
    → IsRunning h.world
doing-runs w0 all k left codes h d =
    let past : w0.quanta ≤ 4000000 = d.past in
    let few : k + length left < 2 ^ 31 = d.few in
    running-within w0.settings (limit w0 + k) (limit w0) (limit w0 + k) (20100 * k) (w0.quanta + 1) h.world d.within (omega arith) (omega arith) (omega arith)

adds : (v : Event) (n k : ℕ) → Adds v (n + k) (n + k) (20100 * k) (n + suc k) (n + suc k) (20100 * suc k)
adds event.Err n k = record { errors = omega arith; next_birth = omega arith; size = omega arith }
adds _ n k = record { errors = omega arith; next_birth = omega arith; size = omega arith }

pub doing-next : (w0 : World) (all : List Event) (k : ℕ) (e : Event) (left : List Event) (codes codes' : List (List ℕ)) (h h' : WorldFields)
    → Doing w0 all k (e ∷ left) codes h → h'.world ≡ apply_event h.world e → KeepsReady h h'
    → h.births ≤ h'.births + births_of e → h.blocks ≤ h'.blocks + blocks_of e → codes' ≡ drop (length (code_born h.world e)) codes
    → Doing w0 all (suc k) left codes' h'
doing-next w0 all k e left codes codes' h h' d world ready births blocks rest =
    let s = w0.settings in
    let n : ℕ = limit w0 in
    record {
      same = ap (λ (w : World). after_events w left) world ∙ d.same;
      can = subst (λ (w : World). CanAllHappen w left) (sym world) d.can.1;
      few = omega (arith, d.few);
      past = d.past;
      within = subst (WithinQuantum s (n + suc k) n (n + suc k) (20100 * suc k) (w0.quanta + 1)) (sym world)
          (within-event e s (n + k) n (n + k) (20100 * k) (w0.quanta + 1) (n + suc k) (n + suc k) (20100 * suc k) h.world d.within d.can.0 (adds e n k));
      newborns = rest ∙ ap (drop (length (code_born h.world e))) d.newborns
          ∙ drop-append_seam (code_born h.world e) (codes_born (apply_event h.world e) left)
          ∙ ap (λ (w : World). codes_born w left) (sym world);
      cells = can_write_all-kept left h h' (λ p c. ready p ∙ c) d.cells.1;
      births = omega (arith, d.births);
      blocks = omega (arith, d.blocks);
    }

-- the codes of the event that is next come first
pub codes-next : (w : World) (e : Event) (left : List Event) (codes : List (List ℕ)) → codes ≡ codes_born w (e ∷ left)
    → codes ≡ code_born w e ++ drop (length (code_born w e)) codes
codes-next w e left codes h =
    h ∙ ap (λ (l : List (List ℕ)). code_born w e ++ l)
    (sym (drop-append_seam (code_born w e) (codes_born (apply_event w e) left)) ∙ ap (drop (length (code_born w e))) (sym h))
