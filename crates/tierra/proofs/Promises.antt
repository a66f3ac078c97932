-- The promises of a call, told of an input and an output in place of a source and a desk.
use Rattle.std.proofs.Common.{◌≡◌, subst, ℕ, List, Option, Result, Ok, Err, IfOk}
use Rattle.file_desk.specs.Printed.{desk_of}
use Rattle.soup_top.specs.Answers.{OnUncalled}
use Rattle.soup_top.specs.Calls.{Call}
use Rattle.soup_top.specs.declared.status.Status.{Status}
use Rattle.soup_top.specs.declared.status.Status.TheVariants as status
use Rattle.tierra.specs.Program.{KeepsPromises, call_of}

on_uncalled : {P Q : Type 0} (s : Status) → (P → Q) → OnUncalled s P → OnUncalled s Q
on_uncalled status.WordsRefused f p = f p
on_uncalled (status.SourceRefused fault) f p = f p
on_uncalled status.ReadFault f p = f p
on_uncalled s f p = tt

pub as_told : (c : Call) (A B : Type 0) → (c.leaves_source → A) → (c.leaves_desk → B) → KeepsPromises c
    → KeepsPromises (record c { leaves_source = A; leaves_desk = B })
as_told c A B f h p = record {
  run = record {
    told = p.run.told;
    begins = p.run.begins;
  };
  crash = record {
    crash = p.crash.crash;
  };
  lines = record {
    kept_up = p.lines.kept_up;
  };
  hold = record {
    resumed = p.hold.resumed;
    last = p.hold.last;
    small = p.hold.small;
    checkpoints = p.hold.checkpoints;
  };
  actions = record {
    done = p.actions.done;
  };
  refusals = record {
    cause = p.refusals.cause;
    complete = λ order should none. p.refusals.complete order (record {
      asked = should.asked;
      bytes = should.bytes;
      given = should.given;
      text = should.text;
      accepted = should.accepted;
      run = should.run;
      hold = should.hold;
    }) (record { source = none.source; desk = none.desk });
  };
  output = record {
    prefix = p.output.prefix;
    unfinished = p.output.unfinished;
    telling = p.output.telling;
  };
  file = record {
    untouched = p.file.untouched;
    unwritten = p.file.unwritten;
    quiet = p.file.quiet;
    quiet_run = p.file.quiet_run;
    told_at_refusal = p.file.told_at_refusal;
    hold_early = p.file.hold_early;
    hold_quiet = p.file.hold_quiet;
    quiet_hold = p.file.quiet_hold;
  };
  calls = record {
    to_its_end = p.calls.to_its_end;
    unread = λ order asks not. f (p.calls.unread order asks not);
    no_further = p.calls.no_further;
    uncalled = on_uncalled c.status h p.calls.uncalled;
    source_steady = p.calls.source_steady;
    disk_steady = p.calls.disk_steady;
    tell_steady = p.calls.tell_steady;
  };
}

-- the same of a call over a source and a desk that were made of an input and an output
pub of_program : (words : List (List ℕ)) (left input input_after : Option (List ℕ)) (n reads : ℕ) (told output output_after : Option (List ℕ))
    (a b disk tells : ℕ) (L M A B : Type 0) (s : Status) → left ≡ input → n ≡ 0 → told ≡ output → a ≡ 0 → b ≡ 0 → (L → A) → (M → B)
    → KeepsPromises (record {
      words = words;
      source = record { left = left; faults = n };
      source_after = record { left = input_after; faults = reads };
      desk = desk_of told a b;
      desk_after = desk_of output_after disk tells;
      leaves_source = L;
      leaves_desk = M;
      status = s;
    })
    → KeepsPromises (call_of words input input_after A output output_after B (record { reads = reads; disk = disk; tells = tells }) s)
of_program words left input input_after n reads told output output_after a b disk tells L M A B s left_is n_is told_is a_is b_is f h p =
    let made : Option (List ℕ) → ℕ → Option (List ℕ) → ℕ → ℕ → Call = λ (l : Option (List ℕ)) (k : ℕ) (t : Option (List ℕ)) (x y : ℕ). record {
      words = words;
      source = record { left = l; faults = k };
      source_after = record { left = input_after; faults = reads };
      desk = desk_of t x y;
      desk_after = desk_of output_after disk tells;
      leaves_source = L;
      leaves_desk = M;
      status = s;
    } in
    let one = subst (λ l. KeepsPromises (made l n told a b)) left_is p in
    let two = subst (λ k. KeepsPromises (made input k told a b)) n_is one in
    let three = subst (λ t. KeepsPromises (made input 0 t a b)) told_is two in
    let four = subst (λ x. KeepsPromises (made input 0 output x b)) a_is three in
    let five = subst (λ y. KeepsPromises (made input 0 output 0 y)) b_is four in
    as_told (made input 0 output 0 0) A B f h five

-- what holds of the words holds of those that were given
pub at_words : {T E X : Type 0} (words : Result T E) (f : T → X) (x : X) (P : X → Type 0) → IfOk words (λ all. x ≡ f all) → P x
    → IfOk words (λ all. P (f all))
at_words (Ok all) f x P is holds = subst P is holds
at_words (Err e) f x P is holds = tt
