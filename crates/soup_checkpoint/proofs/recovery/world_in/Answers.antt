use Rattle.std.proofs.Common.{◌≡◌, ◌∙◌, ap, refl, sym, subst, inr, List, ℕ}
use Rattle.file_journal.specs.Files.{behind_header}
use Rattle.world_state.specs.Restoring.{AreBytesOf, IsStateOf}
use Rattle.world_state.specs.StateBytes.{state_bytes}
use Rattle.world_core.specs.Running.{WorldFields}
use Rattle.soup_checkpoint.specs.declared.owner.Owner.{Owner}
use Rattle.soup_checkpoint.specs.Frames.{bytes_at}
use Rattle.soup_checkpoint.specs.Hold.{EndsWith}
use Rattle.soup_checkpoint.specs.Shelf.{IsWorldOf}
use Rattle.soup_checkpoint.proofs.Reading.{last_there}
use Rattle.soup_checkpoint.proofs.recovery.world_in.Goals as goal

-- a world that was restored tells its own bytes
told_by : (owner : Owner) (w : WorldFields) (bytes : List ℕ) → AreBytesOf owner.settings bytes w.world → IsWorldOf owner w
told_by owner w bytes are = record { settings = are.settings; sound = are.sound; types = are.types; bytes = refl }

pub returns-in-Some-2-clause-held : goal.returns-in-Some-2-clause-held
returns-in-Some-2-clause-held c =
    let image = c.args.image.now in
    let span = c.in-Some.span in
    let w = c.in-Some-2.world in
    let last = last_there image c.args.frames c.requires.read.0 c.requires.read.1 c.requires.closed span c.in-Some.is in
    let restored = rw c.in-Some-2.is at c.in_ok-world.ensures.some in
    let piece : c.piece-state.result.now ≡ bytes_at (behind_header image) span =
    c.piece-state.ensures ∙ ap (λ (b : List ℕ). bytes_at b span) c.after.ensures in
    let bytes : state_bytes w.world ≡ bytes_at (behind_header image) span = restored.bytes ∙ piece in
    (c.requires.owned, subst (EndsWith image) (sym bytes) last.0.0, (w.world, told_by c.args.owner.now w c.piece-state.result.now restored))

pub returns-in-Some-2-clause-world : goal.returns-in-Some-2-clause-world
returns-in-Some-2-clause-world c =
    told_by c.args.owner.now c.in-Some-2.world c.piece-state.result.now (rw c.in-Some-2.is at c.in_ok-world.ensures.some)

pub returns-in-None-clause-refused : goal.returns-in-None-clause-refused
returns-in-None-clause-refused c =
    let image = c.args.image.now in
    let span = c.in-Some.span in
    let last = last_there image c.args.frames c.requires.read.0 c.requires.read.1 c.requires.closed span c.in-Some.is in
    let none = rw c.in-None.is at c.in_ok-world.ensures.none in
    let piece : c.piece-state.result.now ≡ bytes_at (behind_header image) span =
    c.piece-state.ensures ∙ ap (λ (b : List ℕ). bytes_at b span) c.after.ensures in
    let no_state : IsStateOf c.args.owner.now.settings (bytes_at (behind_header image) span) → ⊥ =
    λ s. none s.0 (subst (λ (b : List ℕ). AreBytesOf c.args.owner.now.settings b s.0) (sym piece) s.1) in (
      (
        c.requires.owned,
        inr (record {
          state = bytes_at (behind_header image) span;
          last = last.0.0;
          number = last.0.1;
          no_state = no_state;
        }),
      ),
      tt,
    )
