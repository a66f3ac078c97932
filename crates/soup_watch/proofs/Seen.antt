-- What was seen, look after look.
use Rattle.std.proofs.Common.{◌≡◌, ◌∙◌, refl, sym, ap, subst, arith, ℕ, ◌+◌, ◌≤◌, List, [], ◌∷◌, ◌++◌, length, Some, All}
use Rattle.std.proofs.lemmas.List.{length_push}
use Rattle.std.proofs.lemmas.List.Elements.{All-nil, All-push}
use Rattle.std.specs.Prelude.{IfSome}
use Rattle.std.proofs.lemmas.Option.{IfSome_then}
use Rattle.tierra_model.specs.Setups.{SetupFields}
use Rattle.tierra_model.specs.Serial.{serial}
use Rattle.soup_watch.specs.declared.sight.Sight.{Sight}
use Rattle.soup_watch.specs.Seats.{HasSeen}
use Rattle.soup_watch.specs.Seeing.{NeverFalls, last_of, sight_of}
use Rattle.soup_watch.specs.Watching.{AreSights, IsSightOf}

pub seen_nothing : (setup : SetupFields) (seen : ℕ) → HasSeen setup 0 seen []
seen_nothing setup seen = record { count_is = refl; each = All-nil (IsSightOf setup); last = tt }

pub seen_later : (setup : SetupFields) (k before now : ℕ) (sights : List Sight) → before ≤ now → HasSeen setup k before sights → HasSeen setup k now sights
seen_later setup k before now sights more h = record {
  count_is = h.count_is;
  each = h.each;
  last = IfSome_then (last_of sights) h.last (λ s le. omega (arith, le, more));
}

pub seen_one_more : (setup : SetupFields) (k seen : ℕ) (sights now : List Sight) (s : Sight) → All (IsSightOf setup) sights → length sights ≡ k
    → s ≡ sight_of (serial setup seen) → s.quanta ≡ seen → now ≡ sights ++ s ∷ [] → last_of now ≡ Some s → HasSeen setup (k + 1) seen now
seen_one_more setup k seen sights now s each count is quanta now_is last = record {
  count_is = ap length now_is ∙ length_push sights s ∙ ap (λ (n : ℕ). n + 1) count;
  each = subst (All (IsSightOf setup)) (sym now_is) (All-push (IsSightOf setup) sights s each (seen, is));
  last = subst (λ o. IfSome o (λ x. x.quanta ≤ seen)) (sym last) (omega (arith, quanta));
}

-- with the sight of the end they are all that is told
pub all_seen : (setup : SetupFields) (n looks seen : ℕ) (now : List Sight) (s : Sight) → HasSeen setup (looks + 1) seen now → NeverFalls now
    → last_of now ≡ Some s → s ≡ sight_of (serial setup n) → AreSights setup n looks now
all_seen setup n looks seen now s h order last is = record {
  count = h.count_is;
  each = h.each;
  order = order;
  last = last ∙ ap Some is;
}
