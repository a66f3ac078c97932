use Rattle.std.proofs.Common.{rules, ◌≡◌, ◌∙◌, sym, ap, subst, arith, ◌≤◌, [], length, ◌+◌}
use Rattle.tierra_model.specs.Serial.{serial}
use Rattle.tierra_model.specs.World.{World}
use Rattle.crew.specs.Hand.{AreNext}
use Rattle.crew.proofs.HasGroups.{has_all, has_of, has_still, none_is_next, none_waits}
use Rattle.crew.proofs.handing.fresh_groups.Goals as goal

pub returns-then-saved-kept : goal.returns-then-saved-kept
returns-then-saved-kept c =
    let book = c.args.book.now in
    let run = c.is_run.ensures in
    let saved : c.kept-saved.result ≡ length (serial book.setup book.committed).saved =
    c.kept-saved.ensures ∙ ap (λ (w : World). length w.saved) c.world.ensures in
    let less : c.kept-saved.result ≤ c.args.kept = c.if-saved-kept.true in
    let items = c.new.result.items in
    let none : items ≡ [] = search rules in
    record {
      groups = none ∙ none_waits book.setup book.quanta book.committed c.args.kept c.args.done run.setup run.committed (omega (arith, saved, less)) c.requires;
      next = subst (AreNext book.setup book.quanta c.args.done) (sym none) (none_is_next book.setup book.quanta c.args.done);
      saved = has_still book.setup book.quanta c.args.kept c.kept-saved.result c.args.done (length items) less c.requires;
    }

pub returns : goal.returns
returns c =
    let book = c.args.book.now in
    let run = c.is_run.ensures in
    let groups = c.in_ok-groups.groups in
    let saved : c.kept-saved.result ≡ length (serial book.setup book.committed).saved =
    c.kept-saved.ensures ∙ ap (λ (w : World). length w.saved) c.world.ensures in
    record {
      groups = c.in_ok-groups.ensures.groups;
      next = c.in_ok-groups.ensures.next;
      saved = has_of book.setup book.quanta book.committed c.kept-saved.result (c.args.done + length groups) run.few run.committed saved
          (has_all book.setup book.committed c.args.done groups c.in_ok-groups.ensures.groups);
    }
