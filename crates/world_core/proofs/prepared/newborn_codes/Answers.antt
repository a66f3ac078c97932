use Rattle.std.proofs.Common.{◌≡◌, ◌∙◌, ◌+◌, ◌<◌, ◌≤◌, [], ◌∷◌, ◌++◌, ap, get_or, length, rules, subst, sym, take}
use Rattle.std.specs.Prelude.{IfSome, Option}
use Rattle.std.proofs.lemmas.List.{take_more}
use Rattle.tierra_model.specs.declared.creatures.Block.{Block}
use Rattle.tierra_model.specs.declared.events.Event.{Event}
use Rattle.tierra_model.specs.declared.events.Event.TheVariants as event
use Rattle.tierra_model.specs.World.{World, front}
use Rattle.tierra_model.specs.Events.{apply_event}
use Rattle.tierra_model.specs.Replay.{after_events}
use Rattle.world_core.specs.Prepared.{code_at, codes_born, daughter_after}
use Rattle.world_core.proofs.Within.{running-sound}
use Rattle.world_core.proofs.Preparing.{after-append, can-at, can-first, codes-append, daughter-event, front-after, held-lies, soup-events}
use Rattle.world_core.proofs.prepared.newborn_codes.Goals as goal

pub front-requires : goal.front-requires
front-requires c = running-sound c.args.running.now.world c.requires.sound

pub push_code-requires-clause-block : goal.push_code-requires-clause-block
push_code-requires-clause-block c =
    let w = c.args.running.now.world in
    let es = take c.loop-i.i c.args.events.now in
    subst (λ (o : Option Block). IfSome o (λ b. b.at + b.size ≤ length w.soup)) (sym c.loop-i.invariant.0)
    (held-lies w es c.requires.sound (can-first w c.args.events.now c.loop-i.i c.requires.can))

pub loop-i-preserved : goal.loop-i-preserved
loop-i-preserved c =
    let w = c.args.running.now.world in
    let all = c.args.events.now in
    let i = c.loop-i.i in
    let es = take i all in
    let e : Event = get_or all i (event.Write 0 0) in
    let within : i < length all = search rules in
    let more : take (i + 1) all ≡ es ++ e ∷ [] = take_more all i (event.Write 0 0) within in
    let can = can-at w all i (event.Write 0 0) within c.requires.can in
    let front_is = front-after w es c.requires.sound (can-first w all i c.requires.can) in
    let next : after_events w (take (i + 1) all) ≡ apply_event (after_events w es) e = ap (after_events w) more ∙ after-append w es e in (
      c.daughter_after-held.ensures ∙ ap (daughter_after e) c.loop-i.invariant.0 ∙ sym (daughter-event (after_events w es) e front_is can)
          ∙ ap (λ (v : World). (front v).daughter) (sym next),
      c.in_ok-push_code.ensures
          ∙ (λ j. c.loop-i.invariant.1 j ++ code_at e (c.loop-i.invariant.0 j) (sym (soup-events w es) j))
          ∙ sym (codes-append w es e) ∙ ap (codes_born w) (sym more),
    )
