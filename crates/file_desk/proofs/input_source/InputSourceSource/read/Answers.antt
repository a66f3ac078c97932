use Rattle.std.proofs.Common.{◌<◌, length, rules}
use Rattle.file_desk.proofs.Reading.{is_read_call}
use Rattle.file_desk.proofs.input_source.InputSourceSource.read.Goals as goal

pub returns : goal.returns
returns g c =
    let room : 0 < length c.read_some-read.new.buf = search rules in
    is_read_call c.read_some-read.result c.piece_of.result c.read_some-read.new.buf (g.I.Read.remaining c.args.self.now.input)
    (g.I.Read.remaining c.read_some-read.new.input) c.args.self.now.faults c.piece_of.new.faults
    (g.met.I.SteadyRead.steady c.args.self.now.input c.read_some-read.new.input) room c.read_some-read.ensures.bytes
    c.piece_of.ensures.call c.piece_of.ensures.got c.piece_of.ensures.end c.piece_of.ensures.failed
