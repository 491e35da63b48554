-- The words of kernels that contracts and proofs name most.
pub use Rattle.kernels.specs.Arithmetic.{are_one_int, arithmetic_fault, exact, first_bad, is_outside, operands_fault, results}
pub use Rattle.kernels.specs.Beside.{fault_from, fault_with, has_number, number_beside, number_fault}
pub use Rattle.kernels.specs.Computed.{AreOfType, AreResults, IsLeastOutside, StopsAt, result_at}
pub use Rattle.kernels.specs.Fault.{IsKernelFault, shape_fault, type_fault}
pub use Rattle.kernels.specs.Kleene.{and_known, conjunction, disjunction, negation, or_known, truth_fault, truth_of, truths_fault}
pub use Rattle.kernels.specs.Known.{HasTruths}
pub use Rattle.kernels.specs.Lift.{at_each_place, lifted}
pub use Rattle.kernels.specs.Nulls.{nulls}
pub use Rattle.kernels.specs.Order.{are_comparable, compared, comparison_fault, meets}
pub use Rattle.truths.specs.Truth.{truth_at, truths_of}
pub use Rattle.kernels.specs.Wanted.{wants}
