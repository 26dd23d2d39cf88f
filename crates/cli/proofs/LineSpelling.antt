-- A line, piece by piece.
use Rattle.std.proofs.Common.{ℕ, ◌≡◌, List, ◌++◌, codes, decimal, ap, refl, sym, ◌∙◌, append_assoc}
use Rattle.std.specs.Borrow.{Bor}
use Rattle.tag.specs.declared.numbers.OpId.{OpId}
use Rattle.certificate_check.specs.declared.verdict.Fault.{Fault}
use Rattle.certificate_check.specs.declared.verdict.Verdict.{Verdict}
use Rattle.cli.specs.Justifications.{no_note_text, refusal_text}
use Rattle.cli.specs.JsonLines.{json_line, verdict_members}
use Rattle.certificate_check.specs.Texts.{fault_text}
use Rattle.cli.specs.declared.noted_orders.Unjustified.TheVariants as unjustified

regroup_five : (old p q r s t : List ℕ) → ((((old ++ p) ++ q) ++ r) ++ s) ++ t ≡ old ++ (p ++ q ++ r ++ s ++ t)
regroup_five old p q r s t = simp append_assoc

five : (old p q r s t a b c d e : List ℕ) → a ≡ old ++ p → b ≡ a ++ q → c ≡ b ++ r → d ≡ c ++ s → e ≡ d ++ t → e ≡ old ++ (p ++ q ++ r ++ s ++ t)
five old p q r s t a b c d e first second third fourth fifth =
    fifth ∙ ap (λ (x : List ℕ). x ++ t) (fourth ∙ ap (λ (x : List ℕ). x ++ s) (third ∙ ap (λ (x : List ℕ). x ++ r) (second ∙ ap (λ (x : List ℕ). x ++ q) first))) ∙ regroup_five old p q r s t

-- the same as an object
pub json_said : (old a b c d e key : List ℕ) (verdict : Verdict) → a ≡ old ++ codes "{\"key\":\"" → b ≡ a ++ key → c ≡ b ++ codes "\",\"verdict\":"
    → d ≡ c ++ verdict_members verdict → e ≡ d ++ codes "}\n" → e ≡ old ++ json_line key verdict
unfolding json_line
json_said old a b c d e key verdict = five old (codes "{\"key\":\"") key (codes "\",\"verdict\":") (verdict_members verdict) (codes "}\n") a b c d e

-- why a key has no order
module _ (old a b : List ℕ) (key : Bor (List ℕ)) (begun : a ≡ old ++ codes "abd: key ") (named : b ≡ a ++ key.now) where
  pub no_note_said : (c d : List ℕ) (op : OpId) (n : ℕ) → n ≡ op.0 → c ≡ b ++ (codes ": no note for call " ++ decimal n) → d ≡ c ++ codes "\n" → d ≡ old ++ refusal_text (unjustified.NoNote key op)
  unfolding no_note_text refusal_text
  no_note_said c d op n is told ended =
      let counted : c ≡ b ++ codes ": no note for call " ++ decimal op.0 =
      told ∙ sym (append_assoc b (codes ": no note for call ") (decimal n)) ∙ ap (λ (m : ℕ). b ++ codes ": no note for call " ++ decimal m) is in
      let whole : d ≡ b ++ codes ": no note for call " ++ decimal op.0 ++ codes "\n" = ended ∙ ap (λ (x : List ℕ). x ++ codes "\n") counted in
      whole ∙ ap (λ (x : List ℕ). x ++ codes ": no note for call " ++ decimal op.0 ++ codes "\n") (named ∙ ap (λ (x : List ℕ). x ++ key.now) begun)
      ∙ regroup_five old (codes "abd: key ") key.now (codes ": no note for call ") (decimal op.0) (codes "\n")

  pub no_order_said : (c d e : List ℕ) (fault : Fault) → c ≡ b ++ codes ": no " → d ≡ c ++ fault_text fault → e ≡ d ++ codes "\n" → e ≡ old ++ refusal_text (unjustified.NoOrder key fault)
  unfolding refusal_text
  no_order_said c d e fault = five old (codes "abd: key ") key.now (codes ": no ") (fault_text fault) (codes "\n") a b c d e begun named

pub memory_said : (old new : List ℕ) → new ≡ old ++ codes "abd: no memory\n" → new ≡ old ++ refusal_text unjustified.Memory
unfolding refusal_text
memory_said old new said = said

-- of a key that is left out the same line is said
pub left_out_said : (key : Bor (List ℕ)) (op : OpId) → refusal_text (unjustified.NoNote key op) ≡ no_note_text key.now op
unfolding refusal_text
left_out_said key op = refl
