-- To be the same process, and to be the same thread, are equivalences.
use Rattle.std.proofs.lemmas.Cmp.{nat_eq_equiv, on_equiv, and_equiv}
use Rattle.std.specs.Cmp.{IsEquivalence}
use Rattle.capture_frame.specs.declared.process.Process.{Process}
use Rattle.capture_frame.specs.declared.process.Thread.{Thread}
use Rattle.capture_frame.specs.Process.{same_process, same_thread}

pub same_process_equiv : IsEquivalence same_process
same_process_equiv = and_equiv (on_equiv (λ (p : Process). p.device) nat_eq_equiv) (on_equiv (λ (p : Process). p.number) nat_eq_equiv)

pub same_thread_equiv : IsEquivalence same_thread
same_thread_equiv = and_equiv (on_equiv (λ (t : Thread). t.process) same_process_equiv) (on_equiv (λ (t : Thread). t.number) nat_eq_equiv)
