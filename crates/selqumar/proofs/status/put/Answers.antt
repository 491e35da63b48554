use Rattle.std.proofs.Common.{List, arith, inl, refl, string_bytes, subst, ℕ}
use Rattle.std.proofs.lemmas.Grind.{common_steps}
use Rattle.selqumar.specs.Status.{IsTextOf, IsTooShort, IsWritten}
use Rattle.selqumar.proofs.status.put.Goals as goal

pub returns-in-Ok-clause-leaves : goal.returns-in-Ok-clause-leaves
returns-in-Ok-clause-leaves c =
    let put = c.put_items in
    let text = string_bytes c.in-Ok.text in
    let is : IsTextOf c.args.answered text = (c.in-Ok.text, c.in-Ok.is, refl) in
    let value = c.as_bytes.ensures.value in record {
      given = λ zero. (text, is, subst (λ (t : List ℕ). IsWritten t c.args.out.now put.new.out put.new.needed) value (put.ensures.written (omega (arith, zero))));
      fault = grind (arith, common_steps);
      short = λ two. (text, inl is, subst (λ (t : List ℕ). IsTooShort t c.args.out.now put.new.out put.new.needed) value (put.ensures.short two));
      memory = grind (arith, common_steps);
    }
