-- `compression::compress` meets its contract: each callee's equation in turn.
use Rattle.compression.specs.Compression.{compressed}
use Rattle.compression.proofs.compress.Goals as goal

pub returns : goal.returns
unfolding compressed
returns c = cc
