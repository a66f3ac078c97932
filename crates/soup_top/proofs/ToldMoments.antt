-- The moments of a task that writes nothing.
use Rattle.std.proofs.Common.{◌∙◌, inl, inr, sym, ℕ, List, take, drop, take-append-drop, Result}
use Rattle.desk_io.specs.Desk.{DeskState, Elapses, Tells, Untouched, UsesDisk}
use Rattle.desk_io.proofs.Time.{Elapses-then, Elapses-weaker, Untouched-none, UsesDisk-none}
use Rattle.soup_top.specs.declared.asking.Task.{Task}
use Rattle.soup_top.specs.Tasks.{IsTellingFor, IsTextFor}

module _ (t : Task) (old mid : DeskState) where
  -- while the disk is read
  pub read_quietly : UsesDisk old mid old.may_leave → Elapses old mid (IsTellingFor t old)
  read_quietly uses = Elapses-weaker (λ image text m. (m.0, inl m.1)) uses.time

  -- and then the task's text is told
  pub told_quietly : {T E : Type 0} {result : Result T E} (new : DeskState) (whole : List ℕ) → UsesDisk old mid old.may_leave → Untouched old mid
      → Tells mid new whole result → IsTextFor t old.reads whole → Elapses old new (IsTellingFor t old)
  told_quietly new whole uses same tells is =
      Elapses-then (read_quietly uses) (Elapses-weaker (λ image text m.
      let n = m.1.1 in (
        (same.crash image).0 ((tells.untouched.crash image).0 m.0),
        inr (
          whole,
          is,
          (take n whole, (m.1.0, sym uses.told ∙ m.1.2, m.1.3), (drop n whole, sym (take-append-drop n whole))),
        ),
      )) tells.time)

-- or it is told at once
pub told_at_once : {T E : Type 0} {result : Result T E} (t : Task) (old new : DeskState) (whole : List ℕ) → Tells old new whole result
    → IsTextFor t old.reads whole → Elapses old new (IsTellingFor t old)
told_at_once t old new whole tells is = told_quietly t old old new whole (UsesDisk-none old old.may_leave) (Untouched-none old) tells is
