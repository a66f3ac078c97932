use Rattle.std.proofs.Common.{◌≡◌, ◌∙◌, ap, inr}
use Rattle.soup_top.specs.Words.{texts_of}
use Rattle.tierra.proofs.Promises.{of_program}
use Rattle.tierra.proofs.run_words.Goals as goal

pub returns : goal.returns
returns g c =
    let made = c.new-source.ensures in
    let desk = c.new-desk.ensures in
    let after = c.tierra-status.ensures in
    inr (
      record { reads = c.tierra-status.new.source.faults; disk = c.tierra-status.new.desk.disk_faults; tells = c.tierra-status.new.desk.tell_faults },
      of_program (texts_of c.args.words.now) (g.I.Read.remaining c.new-source.result.input) (g.I.Read.remaining c.args.input)
          (g.I.Read.remaining c.tierra-status.new.source.input) c.new-source.result.faults c.tierra-status.new.source.faults
          (g.O.Write.contents c.new-desk.result.output) (g.O.Write.contents c.args.output) (g.O.Write.contents c.tierra-status.new.desk.output)
          c.new-desk.result.disk_faults c.new-desk.result.tell_faults c.tierra-status.new.desk.disk_faults c.tierra-status.new.desk.tell_faults
          (c.tierra-status.new.source ≡ c.new-source.result) (c.tierra-status.new.desk ≡ c.new-desk.result)
          (c.tierra-status.new.source.input ≡ c.args.input) (c.tierra-status.new.desk.output ≡ c.args.output) c.tierra-status.result
          (ap (λ i. g.I.Read.remaining i) made.input) made.faults (ap (λ o. g.O.Write.contents o) desk.output) desk.disk desk.tells
          (λ same. ap (λ s. s.input) same ∙ made.input) (λ same. ap (λ d. d.output) same ∙ desk.output)
          (record {
            run = after.run;
            crash = after.crash;
            lines = after.lines;
            hold = after.hold;
            actions = after.actions;
            refusals = after.refusals;
            output = after.output;
            file = after.file;
            calls = after.calls;
          }),
    )
