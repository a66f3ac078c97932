-- There is a text of each watched run: that of an observer who sees the end alone.
use Rattle.std.proofs.Common.{◌≡◌, ◌∙◌, refl, sym, ap, arith, ℕ, ◌+◌, ◌-◌, ◌<◌, List, ◌++◌, length, get_or, Some}
use Rattle.std.specs.Prelude.{replicate, slice_get}
use Rattle.std.proofs.lemmas.List.{get_or-replicate, length-replicate}
use Rattle.std.proofs.lemmas.List.Elements.{All-replicate}
use Rattle.std.proofs.lemmas.Option.{slice_get_read}
use Rattle.tierra_model.specs.Setups.{SetupFields}
use Rattle.tierra_model.specs.Serial.{serial}
use Rattle.report_text.specs.Report.{report}
use Rattle.soup_watch.specs.declared.sight.Sight.{Sight}
use Rattle.soup_watch.specs.Seeing.{NeverFalls, last_of, sight_of}
use Rattle.soup_watch.specs.Text.{sights_text}
use Rattle.soup_watch.specs.Watching.{IsSightOf, IsWatchText}

abbrev all_the_end : SetupFields → ℕ → ℕ → List Sight
all_the_end setup n looks = replicate (looks + 1) (sight_of (serial setup n))

long : (setup : SetupFields) (n looks : ℕ) → length (all_the_end setup n looks) ≡ looks + 1
long setup n looks = length-replicate (looks + 1) (sight_of (serial setup n))

same_at : (setup : SetupFields) (n looks i : ℕ) (d : Sight) → i < looks + 1 → get_or (all_the_end setup n looks) i d ≡ sight_of (serial setup n)
same_at setup n looks i d h = get_or-replicate (looks + 1) i (sight_of (serial setup n)) d h

never_falls : (setup : SetupFields) (n looks : ℕ) → NeverFalls (all_the_end setup n looks)
never_falls setup n looks i j d le lt =
    let more : j < looks + 1 = omega (arith, lt, long setup n looks) in
    omega (
      arith,
      ap (λ (s : Sight). s.quanta) (same_at setup n looks i d (omega (arith, le, more))),
      ap (λ (s : Sight). s.quanta) (same_at setup n looks j d more),
    )

ends : (setup : SetupFields) (n looks : ℕ) → last_of (all_the_end setup n looks) ≡ Some (sight_of (serial setup n))
ends setup n looks =
    let s = sight_of (serial setup n) in
    let here : length (all_the_end setup n looks) - 1 ≡ looks = omega (arith, long setup n looks) in
    ap (λ (i : ℕ). slice_get (all_the_end setup n looks) i) here
    ∙ slice_get_read (all_the_end setup n looks) (looks + 1) looks s (sym (long setup n looks)) (omega arith)
    (sym (same_at setup n looks looks s (omega arith)))

pub some_watch_text : (setup : SetupFields) (n looks : ℕ) → (text : List ℕ) × IsWatchText setup n looks text
some_watch_text setup n looks =
    let sights = all_the_end setup n looks in (
      sights_text sights ++ report (serial setup n),
      (
        sights,
        record {
          count = long setup n looks;
          each = All-replicate (IsSightOf setup) (looks + 1) (sight_of (serial setup n)) (n, refl);
          order = never_falls setup n looks;
          last = ends setup n looks;
        },
        refl,
      ),
    )
