use Rattle.std.proofs.Common.{◌≡◌, ◌+◌, take}
use Rattle.std.specs.Prelude.{count_by}
use Rattle.schedule_drill.specs.Drill.{is_fresh, is_missing, is_stale}
use Rattle.schedule_drill.proofs.tally.ways_of.Given as goal

abbrev pub invariant-loop-place : goal.invariant-loop-place
invariant-loop-place l = record {
  fresh : l.ways.fresh ≡ count_by is_fresh (take l.place l.history);
  missing : l.ways.missing ≡ count_by is_missing (take l.place l.history);
  stale : l.ways.stale ≡ count_by is_stale (take l.place l.history);
  all : l.ways.fresh + l.ways.missing + l.ways.stale ≡ l.place;
}
