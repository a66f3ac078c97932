-- The first k groups of a run were taken to a bank that had some, and their lines were told.
use Rattle.std.proofs.Common.{◌≡◌, ◌∙◌, inl, inr, refl, sym, ap, subst, arith, ℕ, ◌+◌, ◌-◌, ◌<◌, ◌≤◌, List, [], ◌++◌, append-nil, length, take, drop}
use Rattle.std.proofs.Common.{append_assoc, length-append, length-take, Option, Some}
use Rattle.std.specs.Prelude.{IfSome, slice_get}
use Rattle.std.proofs.lemmas.List.{take_all}
use Rattle.std.proofs.lemmas.Option.{slice_get_within}
use Rattle.desk_io.specs.Desk.{Appended, AppendedSome, DeskState, Elapses}
use Rattle.desk_io.proofs.Time.{Elapses-weaker}
use Rattle.tierra_model.specs.Genebank.{GroupsFit}
use Rattle.tierra_model.specs.Groups.{GroupFields}
use Rattle.bank_journal.specs.Bank.{Has}
use Rattle.bank_journal.specs.Steps.{StaysTold}
use Rattle.bank_journal.proofs.Times.{each_file}
use Rattle.report_text.specs.Bank.{saved_lines}
use Rattle.desk_io.specs.Told.{BeginsWithText}
use Rattle.soup_top.specs.Genebank.{IsFirstToDiffer}
use Rattle.soup_top.specs.Handing.{TakenSoFar}
use Rattle.soup_top.specs.Keeping.{DiffersAt, FitsAsFar, IsKeeping, IsTaken, IsTaking, completed, group_lines, grown}
use Rattle.soup_top.proofs.Growing.{first_is_later, first_to_differ, fits_as_far_as, grown-all, inside_had, taken_fits, taken_grown}
use Rattle.soup_top.proofs.RunLines.{lines_and_some, lines_begin, lines_left, lines_more, lines_of_first, lines_so_far}
use Rattle.soup_top.proofs.Taking.{times_then}
use Rattle.desk_io.proofs.Telling.{Appended-then, piece_begun, text_before}

module _ {had run : List GroupFields} {k : ℕ} {groups : List GroupFields} {before mid : Option (List ℕ)}
    (so_far : TakenSoFar had run k groups before mid) where
  -- the bank has its groups still
  pub has_as_many : (n : ℕ) → n < length had → n < length groups
  has_as_many n lt = omega (arith, ap length so_far.groups_are, length-append had (drop (length had) (take k run)))

  -- and none of those that were taken differs
  pub none_differs_yet : (n : ℕ) → IsFirstToDiffer had run n → (k ≤ n) × (n < length had) × (n < length run)
  none_differs_yet n first = (
    first_is_later had run k n (subst (λ gs. GroupsFit (take k gs) (take k run)) so_far.groups_are so_far.fits) first,
    slice_get_within had n first.disk_group first.on_disk,
    slice_get_within run n first.run_group first.in_run,
  )

  module _ {g : GroupFields} (at : slice_get run k ≡ Some g) where
    grown_taken : (now : List GroupFields) → IsTaken groups k g now → now ≡ grown had run (k + 1)
    grown_taken now taken = taken_grown had run k g at now (subst (λ gs. IsTaken gs k g now) so_far.groups_are taken)

    -- one more
    pub next_taken : (now : List GroupFields) (after : Option (List ℕ)) → IsTaken groups k g now → Appended mid (group_lines g) after
        → TakenSoFar had run (k + 1) now before after
    next_taken now after taken told = record {
      groups_are = grown_taken now taken;
      fits = taken_fits had run k g at groups now taken so_far.fits;
      told = rw (lines_more run k g at) (Appended-then before mid after (saved_lines (take k run)) (group_lines g) so_far.told told);
    }

    pub next_partly_told : (after : Option (List ℕ)) → AppendedSome mid (group_lines g) after → AppendedSome before (saved_lines run) after
    next_partly_told after partly = piece_begun _ _ (lines_left run k g at) (lines_so_far run k before mid so_far.told) partly

    -- while it is taken
    pub taking_keeps : (digest image text : List ℕ) → IsTaking digest groups k g mid image text
        → IsKeeping digest had run (saved_lines run) before image text
    taking_keeps digest image text (inl (has, told)) =
        let within = slice_get_within run k g at in
        record {
          k = k;
          inside = omega arith;
          has = record {
            has = subst (λ gs. Has digest gs image) so_far.groups_are has;
            fits = subst (λ gs. GroupsFit (take k gs) (take k run)) so_far.groups_are so_far.fits;
          };
          piece = saved_lines (take k run);
          told = text_before before mid (saved_lines (take k run)) text so_far.told told;
          kept_up =
              subst (BeginsWithText (saved_lines (take (k - 1) run))) (append-nil (saved_lines (take k run)))
              (lines_begin run (k - 1) k [] (omega arith));
          covered = inr (omega arith);
          part = lines_of_first run k;
        }
    taking_keeps digest image text (inr (now, i, taken, has, told)) =
        let within = slice_get_within run k g at in
        let lines = saved_lines (take k run) in
        let some = take i (group_lines g) in
        let now_is = grown_taken now taken in
        let start = text_before before mid lines told.0 so_far.told told.1 in
        let back : k + 1 - 1 ≡ k = omega arith in
        record {
          k = k + 1;
          inside = omega arith;
          has = record {
            has = subst (λ gs. Has digest gs image) now_is has;
            fits = subst (λ gs. GroupsFit (take (k + 1) gs) (take (k + 1) run)) now_is (taken_fits had run k g at groups now taken so_far.fits);
          };
          piece = lines ++ some;
          told = (start.0, start.1, told.2 ∙ ap (λ t. t ++ some) start.2 ∙ append_assoc start.0 lines some);
          kept_up = subst (λ (j : ℕ). BeginsWithText (saved_lines (take j run)) (lines ++ some)) (sym back) (some, refl);
          covered = inr (omega (
            arith,
            ap length (lines_more run k g at),
            length-append lines some,
            length-append lines (group_lines g),
            length-take i (group_lines g),
          ));
          part = lines_and_some run k g at i;
        }

    -- so at each moment since the start
    pub keeps_time : (old now new : DeskState) (digest its : List ℕ) → its ≡ digest → StaysTold old now
        → IfSome old.reads (λ file. Elapses old now (IsKeeping digest had run (saved_lines run) before))
        → IfSome now.reads (λ file. Elapses now new (IsTaking its groups k g mid))
        → IfSome old.reads (λ file. Elapses old new (IsKeeping digest had run (saved_lines run) before))
    keeps_time old now new digest its same still first second =
        let more =
        each_file now.reads (λ (file : List ℕ). Elapses now new (IsTaking its groups k g mid))
        (λ (file : List ℕ). Elapses now new (IsKeeping digest had run (saved_lines run) before))
        (λ file is time. Elapses-weaker (λ image text taking.
        taking_keeps digest image text (subst (λ (d : List ℕ). IsTaking d groups k g mid image text) same taking)) time)
        second in
        times_then old now new (IsKeeping digest had run (saved_lines run) before) still first more

    -- the first that differs is one of those that the bank had
    pub differs_first : DiffersAt groups k g → (k < length groups) × (k < length had) × IsFirstToDiffer had run k
    differs_first differs =
        let within = slice_get_within run k g at in
        let inside = slice_get_within groups k differs.0 differs.1 in
        let in_had = inside_had had run k (omega arith) (omega (arith, ap length so_far.groups_are)) in
        let differs' = subst (λ gs. DiffersAt gs k g) so_far.groups_are differs in
        let fits = subst (λ gs. GroupsFit (take k gs) (take k run)) so_far.groups_are so_far.fits in
        (inside, in_had, first_to_differ had run k g at differs' fits)

  -- after the last one
  module _ (all : k ≡ length run) where
    pub all_taken : groups ≡ completed had run
    all_taken = so_far.groups_are ∙ ap (grown had run) all ∙ grown-all had run

    pub all_fit : FitsAsFar had run
    all_fit =
        let fits = subst (λ gs. GroupsFit (take k gs) (take k run)) so_far.groups_are so_far.fits in
        fits_as_far_as had run (subst (λ n. GroupsFit (take n (grown had run n)) (take n run)) all fits)

    pub all_lines_told : Appended before (saved_lines run) mid
    all_lines_told = subst (λ xs. Appended before (saved_lines xs) mid) (take_all k run (omega (arith, all))) so_far.told
