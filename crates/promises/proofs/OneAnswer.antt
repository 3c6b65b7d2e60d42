-- One question, one answer: every clause of a public call is an equation, so that each of them is one step.
use mathlib.Core.Path.{refl, sym, ◌∙◌, ap}
use Rattle.promises.specs.OneAnswer.{OneAnswer}

-- THE PROMISE
pub one_answer : OneAnswer
one_answer =
    record {
      scan_capture = λ κs a r s x y p q. (p ∙ sym q, refl);
      read = λ κs a r s x y p q. (p.0 ∙ sym q.0, ap (λ l. (tt, (l, tt))) (p.1 ∙ sym q.1));
      read_strictly = λ κs a r s x y p q. (p.0 ∙ sym q.0, ap (λ l. (tt, (l, tt))) (p.1 ∙ sym q.1));
      c_read = λ κs a r s x y p q. (p.0 ∙ sym q.0, ap (λ l. (tt, (l, tt))) (p.1 ∙ sym q.1));
      c_route = λ κs a r s x y p q. (p ∙ sym q, refl);
      c_trace = λ κs a r s x y p q. (p ∙ sym q, refl);
      write_text = λ κs a r s x y p q. (p.0 ∙ sym q.0, ap (λ l. (tt, (l, tt))) (p.1.0 ∙ sym q.1.0));
      route = λ κs a r s x y p q. (p ∙ sym q, refl);
      trace = λ κs a r s x y p q. (p ∙ sym q, refl);
      route_each = λ κs a r s x y p q. (p.0 ∙ sym q.0, ap (λ l. (tt, (tt, (l, tt)))) (p.1 ∙ sym q.1));
      keeps_rules = λ κs a r s x y p q. (p ∙ sym q, refl);
      first_broken = λ κs a r s x y p q. (p ∙ sym q, refl);
      owner = λ κs a r s x y p q. (p ∙ sym q, refl);
      arrival_of = λ κs a r s x y p q. (p ∙ sym q, refl);
      arrival = λ κs a r s x y p q. (p ∙ sym q, refl);
      traced = λ κs a r s x y p q. (p ∙ sym q, refl);
      fill = λ κs a r s x y p q. (p ∙ sym q, refl);
      look_up = λ κs a r s x y p q. (p ∙ sym q, refl);
    }
