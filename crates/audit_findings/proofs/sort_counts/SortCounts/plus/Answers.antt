use Rattle.std.proofs.Common.{arith}
use Rattle.object_view.specs.declared.sort.Sort.TheVariants.{Binder, WeakBinder, Handle, WeakHandle, Fd, Fda, Ptr}
use Rattle.audit_findings.proofs.sort_counts.SortCounts.plus.Goals as goal

pub overflow_add-result : goal.overflow_add-result
overflow_add-result c = let room = c.requires Binder in omega (arith, room)

pub overflow_add-result-2 : goal.overflow_add-result-2
overflow_add-result-2 c = let room = c.requires WeakBinder in omega (arith, room)

pub overflow_add-result-3 : goal.overflow_add-result-3
overflow_add-result-3 c = let room = c.requires Handle in omega (arith, room)

pub overflow_add-result-4 : goal.overflow_add-result-4
overflow_add-result-4 c = let room = c.requires WeakHandle in omega (arith, room)

pub overflow_add-result-5 : goal.overflow_add-result-5
overflow_add-result-5 c = let room = c.requires Fd in omega (arith, room)

pub overflow_add-result-6 : goal.overflow_add-result-6
overflow_add-result-6 c = let room = c.requires Fda in omega (arith, room)

pub overflow_add-result-7 : goal.overflow_add-result-7
overflow_add-result-7 c = let room = c.requires Ptr in omega (arith, room)
