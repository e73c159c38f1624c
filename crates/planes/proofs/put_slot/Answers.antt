-- `put_slot` meets its contract: its four stores are `stored`.
use native.Mathlib.Omega.{arith}
use Rattle.planes.proofs.PlaneLaws.{stored_slot}
use Rattle.planes.proofs.put_slot.Goals as goal

pub offset_bounds-planes-slot : goal.offset_bounds-planes-slot
offset_bounds-planes-slot c = omega arith

pub bounds-planes-slot : goal.bounds-planes-slot
bounds-planes-slot c = omega arith

pub overflow_add-planes : goal.overflow_add-planes
overflow_add-planes c = omega arith

pub offset_bounds-planes-slot-2 : goal.offset_bounds-planes-slot-2
offset_bounds-planes-slot-2 c = omega arith

pub bounds-planes-slot-2 : goal.bounds-planes-slot-2
bounds-planes-slot-2 c = omega arith

pub overflow_mul-planes : goal.overflow_mul-planes
overflow_mul-planes c = omega arith

pub overflow_add-planes-2 : goal.overflow_add-planes-2
overflow_add-planes-2 c = omega arith

pub offset_bounds-planes-slot-3 : goal.offset_bounds-planes-slot-3
offset_bounds-planes-slot-3 c = omega arith

pub bounds-planes-slot-3 : goal.bounds-planes-slot-3
bounds-planes-slot-3 c = omega arith

pub overflow_mul-planes-2 : goal.overflow_mul-planes-2
overflow_mul-planes-2 c = omega arith

pub overflow_add-planes-3 : goal.overflow_add-planes-3
overflow_add-planes-3 c = omega arith

pub offset_bounds-planes-slot-4 : goal.offset_bounds-planes-slot-4
offset_bounds-planes-slot-4 c = omega arith

pub bounds-planes-slot-4 : goal.bounds-planes-slot-4
bounds-planes-slot-4 c = omega arith

pub returns : goal.returns
returns c = stored_slot c.args.planes.now c.args.slot c.args.word c.requires (omega arith)
