-- `slot_at` meets its contract: what it reads is `planes_at`.
use mathlib.Core.Path.{refl}
use native.Mathlib.Omega.{arith}
use Rattle.planes.specs.Machine.{planes_at}
use Rattle.planes.proofs.slot_at.Goals as goal

pub offset_bounds-planes-slot : goal.offset_bounds-planes-slot
offset_bounds-planes-slot c = omega arith

pub bounds-planes-slot : goal.bounds-planes-slot
bounds-planes-slot c = omega arith

pub overflow_add-result : goal.overflow_add-result
overflow_add-result c = omega arith

pub offset_bounds-planes-slot-2 : goal.offset_bounds-planes-slot-2
offset_bounds-planes-slot-2 c = omega arith

pub bounds-planes-slot-2 : goal.bounds-planes-slot-2
bounds-planes-slot-2 c = omega arith

pub overflow_mul-result : goal.overflow_mul-result
overflow_mul-result c = omega arith

pub overflow_add-result-2 : goal.overflow_add-result-2
overflow_add-result-2 c = omega arith

pub offset_bounds-planes-slot-3 : goal.offset_bounds-planes-slot-3
offset_bounds-planes-slot-3 c = omega arith

pub bounds-planes-slot-3 : goal.bounds-planes-slot-3
bounds-planes-slot-3 c = omega arith

pub overflow_mul-result-2 : goal.overflow_mul-result-2
overflow_mul-result-2 c = omega arith

pub overflow_add-result-3 : goal.overflow_add-result-3
overflow_add-result-3 c = omega arith

pub offset_bounds-planes-slot-4 : goal.offset_bounds-planes-slot-4
offset_bounds-planes-slot-4 c = omega arith

pub bounds-planes-slot-4 : goal.bounds-planes-slot-4
bounds-planes-slot-4 c = omega arith

pub returns : goal.returns
unfolding planes_at
returns c = refl
