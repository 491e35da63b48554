-- The words of ends that contracts and proofs name most.
pub use Rattle.ends.specs.Line.{TookLine, memory_line, message, output_line}
pub use Rattle.ends.specs.Sink.{AppendsFront}
