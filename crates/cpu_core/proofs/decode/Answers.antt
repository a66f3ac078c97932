use Rattle.std.proofs.Common.{◌≡◌, sym, ◌∙◌}
use Rattle.std.specs.Prelude.{Some}
use Rattle.tierra_model.specs.Table.{op_of}
use Rattle.cpu_core.proofs.Decoding.{slice_get-ops}
use Rattle.cpu_core.proofs.decode.Goals as goal

pub unwrap-requires : goal.unwrap-requires
unwrap-requires c = rw (c.op_of.ensures, slice_get-ops c.args.code c.requires)

pub returns : goal.returns
returns c =
    let found : Some c.unwrap.result ≡ Some (op_of c.args.code) = sym c.unwrap.ensures ∙ c.op_of.ensures ∙ slice_get-ops c.args.code c.requires in
    cc
