-- A book whose quanta are run in its own world, while no finding is kept, stays a book.
use Rattle.std.proofs.Common.{◌≡◌, ℕ, zero, suc, ◌+◌, ◌<◌, ◌≤◌, List, [], ◌∷◌, ◌++◌, refl, sym, ◌∙◌, ap, subst, arith, length}
use Rattle.std.specs.Prelude.{None, Option, drop, max, replicate, slice_index_or, ◌⊎◌}
use Rattle.tierra_model.specs.declared.history.Entry.{Entry}
use Rattle.tierra_model.specs.declared.history.How.TheVariants as how
use Rattle.tierra_model.specs.Findings.{Finding}
use Rattle.tierra_model.specs.Laws.{IsSerialRun}
use Rattle.tierra_model.specs.Quantum.{quantum, slice_of}
use Rattle.tierra_model.specs.Setups.{IsSetup}
use Rattle.tierra_model.specs.Sound.{IsSound}
use Rattle.tierra_model.specs.World.{World, first_of, front}
use Rattle.tierra_model.proofs.StartIsSound.{serial_is_sound}
use Rattle.commit_book.specs.Alone.{CanRun, Pauses}
use Rattle.commit_book.specs.Book.{BookFields, how_of, next_entry, next_how, next_slice, next_steps, steps_by, with_next, world_of}
use Rattle.commit_book.specs.Kept.{IsBook}
use Rattle.commit_book.proofs.Keeping.{next-is_book}
use Rattle.commit_book.proofs.Working.{IsWorking, starts}

-- the book with as many quanta committed
abbrev pub state_of : BookFields → ℕ → List Entry → BookFields
state_of b committed history = record b { committed = committed; handed = max b.handed committed; history = history }

pub state-begins : (b : BookFields) (w : World) → IsBook b w → state_of b b.committed b.history ≡ b
state-begins b w k =
    let handed : max b.handed b.committed ≡ b.handed = omega (arith, k.handed) in
    (λ i. record b { handed = handed i })

more_none : (n : ℕ) → let none : List (Option Finding) = replicate n None in none ++ None ∷ [] ≡ None ∷ none
more_none zero = refl
more_none (suc n) = ap (λ (xs : List (Option Finding)). None ∷ xs) (more_none n)

still_none : (n : ℕ) → 1 ≤ n → let none : List (Option Finding) = replicate n None in drop 1 none ++ None ∷ [] ≡ none
still_none zero h = absurd (let n : ⊥ = omega (arith, h) in n)
still_none (suc n) h = more_none n

first_none : (n : ℕ) → let none : List (Option Finding) = replicate n None in slice_index_or none 0 None ≡ None
first_none zero = refl
first_none (suc n) = refl

-- one quantum more
module _ (b : BookFields) (committed : ℕ) (history : List Entry) (w : World) (none : b.stash ≡ replicate b.window None)
    (k : IsBook (state_of b committed history) w) where
  abbrev x : BookFields
  x = state_of b committed history

  missing : next_how x ≡ how.Missing
  missing = ap (λ (xs : List (Option Finding)). how_of (slice_index_or xs 0 None) (world_of x)) none ∙ ap (λ (o : Option Finding). how_of o (world_of x))
      (first_none b.window)

  entry : next_entry 1 x ≡ record { quantum = length history + 1; creature = first_of w.slicer; by = 1; how = how.Missing }
  entry = (λ i. record { quantum = sym k.each i + 1; creature = first_of (sym k.world i).slicer; by = 1; how = missing i })

  stash : drop 1 x.stash ++ None ∷ [] ≡ x.stash
  stash = ap (λ (xs : List (Option Finding)). drop 1 xs ++ None ∷ []) none ∙ still_none b.window k.some_window ∙ sym none

  pub state-next : (history' : List Entry)
      → history' ≡ history ++ record { quantum = length history + 1; creature = first_of w.slicer; by = 1; how = how.Missing } ∷ []
      → state_of b (committed + 1) history' ≡ with_next 1 x
  state-next history' is =
      let handed : max b.handed (committed + 1) ≡ max x.handed (committed + 1) = omega arith in
      let y : history' ≡ history ++ next_entry 1 x ∷ [] = is ∙ ap (λ (e : Entry). history ++ e ∷ []) (sym entry) in
      (λ i. record b { committed = committed + 1; handed = handed i; stash = sym stash i; history = y i })

  pub state-ticks : slice_of (front w).own.size w.settings ≡ next_steps x
  state-ticks = ap (λ (v : World). slice_of (front v).own.size v.settings) k.world ∙ sym (ap (λ h. steps_by h (next_slice x)) missing)

  pub state-is_book : (y : BookFields) (v : World) → committed < b.quanta → y ≡ with_next 1 x → v ≡ quantum w → IsBook y v
  state-is_book y v more is next = subst (λ (z : BookFields). IsBook z v) (sym is) (next-is_book x w v 1 k more next)

-- the book ran on for some quanta, and the work did not pause before
pub record IsRunning (kept last : ℕ) (b : BookFields) (committed : ℕ) (history : List Entry) (w : World) (t u : ℕ) : Type 0 where
  pub working : IsWorking kept last b (state_of b committed history) t u
  pub book : IsBook (state_of b committed history) w

pub can-run : (kept last : ℕ) (b v : BookFields) (w : World) → v ≡ b → IsSetup v.setup → IsBook v w → last ≤ b.quanta
    → Pauses kept last b ⊎ (b.stash ≡ replicate b.window None)
    → CanRun kept last b w v.history
can-run kept last b v w is setup book within none = record {
  setup = subst (λ (x : BookFields). IsSetup x.setup) is setup;
  within = within;
  none = none;
  book = subst (λ (x : BookFields). IsBook x w) is book;
  history = ap (λ (x : BookFields). x.history) is;
}

pub runs-first : (kept last : ℕ) (b : BookFields) (w : World) (history : List Entry) (n t : ℕ) → CanRun kept last b w history → n ≡ length history
    → IsRunning kept last b n history w t t
runs-first kept last b w history n t k long =
    let all : n ≡ b.committed = long ∙ ap length k.history ∙ k.book.each in
    let is : state_of b n history ≡ b = (λ i. state_of b (all i) (k.history i)) ∙ state-begins b w k.book in
    record {
      working = starts kept last b (state_of b n history) t t is refl;
      book = subst (λ (x : BookFields). IsBook x w) (sym is) k.book;
    }

pub sound-world : (b : BookFields) (w : World) → IsSetup b.setup → IsBook b w → IsSound w
sound-world b w h k =
    let r : IsSerialRun b.setup b.committed = serial_is_sound b.setup b.committed h (omega (arith, k.committed, k.few)) in
    subst IsSound (sym k.world) r.sound

-- no finding is kept where each place has none
pub none_kept : (xs : List (Option Finding)) (n : ℕ) → length xs ≡ n → ((i : ℕ) → i < n → slice_index_or xs i None ≡ None) → xs ≡ replicate n None
none_kept [] zero long none = refl
none_kept [] (suc n) long none = absurd (let k : ⊥ = omega (arith, long) in k)
none_kept (x ∷ xs) zero long none = absurd (let k : ⊥ = omega (arith, long) in k)
none_kept (x ∷ xs) (suc n) long none =
    let first : x ≡ None = none 0 (omega arith) in
    let rest = none_kept xs n (omega (arith, long)) (λ i less. none (suc i) (omega (arith, less))) in
    (λ j. first j ∷ rest j)
