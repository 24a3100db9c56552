-- The law, whole.
use Rattle.std.proofs.Common.{◌≡◌, sym, subst}
use Rattle.rules.proofs.Passed.{done}
use Rattle.rules.proofs.InStep.{Sound, sound, balanced}
use Rattle.rules.proofs.Withdrawals.{exact_withdraw}
use Rattle.rules.proofs.Seizures.{exact_seize}
use Rattle.rules.proofs.Alike.{alike}
use Rattle.rules.specs.States.{State, Terms, made}
use Rattle.rules.specs.Orders.{Order, answer, declare, deposit, effect, mark, opening, position, seize, settle, suspend, withdraw}
use Rattle.rules.specs.Runs.{run}
use Rattle.rules.specs.Law.{Exact, LawOfRuns}

exact_effect : (T : Terms) (s : State) (o : Order) → Sound s → answer T s o ≡ 0 → Exact T s o (effect s o)
exact_effect T s (opening a p) h e = tt
exact_effect T s (mark x price haircut) h e = tt
exact_effect T s (position a c long short) h e = tt
exact_effect T s (declare a margin debt due) h e = tt
exact_effect T s (deposit a k x n) h e = tt
exact_effect T s (withdraw a k x n) h e = exact_withdraw T s a k x n h e
exact_effect T s (suspend p) h e = tt
exact_effect T s (settle p) h e = tt
exact_effect T s (seize side a k x b n) h e = exact_seize T s side a k x b n h e

pub law : LawOfRuns
law T h = record {
  balanced = λ os. balanced T os;
  alike = λ T' h' os os' c e. alike T T' os os' c e;
  exact = λ os o e. subst (Exact T (run T made os) o) (sym (done T (run T made os) o e)) (exact_effect T (run T made os) o (sound T os) e);
}
