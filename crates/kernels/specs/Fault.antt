-- What a kernel refuses.
use Rattle.std.specs.Prelude.{◌≡◌, ◌⊎◌, ◌==◌, length, Bool, not, Option, Some, None, if◌then◌else◌}
use Rattle.arrays.specs.Prelude.{Seen}
use Rattle.kernels.specs.declared.fault.KernelFault.{KernelFault}
use Rattle.kernels.specs.declared.fault.KernelFault.TheVariants.{TypesDiffer, LengthsDiffer, NoMemory}

-- The types don't suit the kernel, else the lengths differ.
abbrev pub shape_fault : Bool → Seen → Seen → Option KernelFault
shape_fault suit a b = if not suit then Some TypesDiffer else if not (length a.items == length b.items) then Some LengthsDiffer else None

-- The type doesn't suit the kernel.
abbrev pub type_fault : Bool → Option KernelFault
type_fault suit = if suit then None else Some TypesDiffer

-- What is reported: the first fault that stands, or want of memory, which comes only where types and lengths are as they should be.
abbrev pub IsKernelFault : Option KernelFault → Option KernelFault → KernelFault → Type 0
IsKernelFault shape all reported = (all ≡ Some reported) ⊎ ((reported ≡ NoMemory) × (shape ≡ None))
