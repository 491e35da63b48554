-- Three-valued logic (Kleene's strong logic of indeterminacy): null is a truth value that isn't known.
use Rattle.std.specs.Prelude.{List, map, Bool, true, false, not, ◌&&◌, Option, Some, None, option_map}
use Rattle.arrays.specs.Item as item
use Rattle.arrays.specs.Prelude.{Item, Seen, item_of_bool, same_kind}
use Rattle.arrays.specs.Kind as kind
use Rattle.kernels.specs.Lift.{at_each_place}
use Rattle.kernels.specs.Fault.{shape_fault, type_fault}
use Rattle.kernels.specs.declared.fault.KernelFault.{KernelFault}

-- The truth value of an item, none where it isn't known.
abbrev pub truth_of : Item → Option Bool
truth_of (item.boolean b) = Some b
truth_of x = None

-- False if either is false, true if both are true, else not known.
abbrev pub and_known : Option Bool → Option Bool → Option Bool
and_known (Some false) y = Some false
and_known (Some true) y = y
and_known None (Some false) = Some false
and_known None (Some true) = None
and_known None None = None

-- True if either is true, false if both are false, else not known.
abbrev pub or_known : Option Bool → Option Bool → Option Bool
or_known (Some true) y = Some true
or_known (Some false) y = y
or_known None (Some true) = Some true
or_known None (Some false) = None
or_known None None = None

-- Place by place.
abbrev pub conjunction : List Item → List Item → List Item
conjunction = at_each_place (λ x y. item_of_bool (and_known (truth_of x) (truth_of y)))

abbrev pub disjunction : List Item → List Item → List Item
disjunction = at_each_place (λ x y. item_of_bool (or_known (truth_of x) (truth_of y)))

abbrev pub negation : List Item → List Item
negation = map (λ x. item_of_bool (option_map not (truth_of x)))

-- The views aren't both of truth values, else their lengths differ.
abbrev pub truths_fault : Seen → Seen → Option KernelFault
truths_fault a b = shape_fault (same_kind a.kind kind.boolean && same_kind b.kind kind.boolean) a b

abbrev pub truth_fault : Seen → Option KernelFault
truth_fault a = type_fault (same_kind a.kind kind.boolean)
