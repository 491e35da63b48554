-- What was read so far is what the source gave, and each turn brought a byte.
use Rattle.std.proofs.Common.{◌≡◌, ◌<◌, ◌≤◌, vec_len}
use Rattle.std.specs.Io.KnownBytes.{Consumes}
use Rattle.ends.proofs.source.read_whole.Given as goal

abbrev pub invariant-loop-turn : goal.invariant-loop-turn
invariant-loop-turn g l = record {
  consumed : Consumes (g.S.Source.remaining l.initial.source) (g.S.Source.remaining l.source) l.bytes.items;
  count : g.S.Source.failures l.source ≡ g.S.Source.failures l.initial.source;
  grown : l._turn ≤ vec_len l.bytes;
  room : 0 < vec_len l.chunk;
}
