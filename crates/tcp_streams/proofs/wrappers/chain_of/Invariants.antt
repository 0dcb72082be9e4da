use Rattle.std.proofs.Common.{◌≡◌, map, take}
use Rattle.tcp_streams.specs.Wrappers.{changed_by, rest_of, whole_of}
use Rattle.tcp_streams.proofs.wrappers.chain_of.Given as goal

abbrev pub invariant-loop-name : goal.invariant-loop-name
invariant-loop-name l = record {
  rest : map rest_of l.wrappers.items ≡ map changed_by (take l.name-index l.names);
  whole : map whole_of l.wrappers.items ≡ map changed_by (take l.name-index l.names);
}
