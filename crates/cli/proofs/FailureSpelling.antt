-- The line of a fault, joined of its pieces.
use Rattle.std.proofs.Common.{ℕ, ◌≡◌, List, ◌++◌, codes, decimal, append_assoc}
use Rattle.counted_devices.specs.FaultTexts.{FaultWords, kind_text}
use Rattle.counted_devices.specs.Numbers.{fault_number}
use Rattle.counted_devices.specs.declared.read_fault.ReadFault.{ReadFault}
use Rattle.cli.specs.FailureLines.{fault_line}

-- eleven texts, one after the other
pub eleven : (a b c d e f g h i j k : List ℕ) → a ++ (b ++ (c ++ (d ++ (e ++ (f ++ (g ++ (h ++ (i ++ (j ++ k))))))))) ≡ a ++ b ++ c ++ d ++ e ++ f ++ g ++ h ++ i ++ j ++ k
eleven a b c d e f g h i j k = simp append_assoc

regroup : (a b c d e f g h i j k : List ℕ) → a ++ (b ++ c) ++ d ++ e ++ f ++ g ++ h ++ i ++ j ++ k ≡ a ++ b ++ (c ++ d ++ e ++ f ++ g ++ h ++ i ++ j) ++ k
regroup a b c d e f g h i j k = simp append_assoc

pub fault_pieces : {L : Type 0} (words : FaultWords L) (fault : ReadFault L) (name line title number text : List ℕ)
    → line ≡ decimal fault.line → title ≡ words.title → number ≡ decimal (fault_number words.number words.device words.memory fault.kind) → text ≡ kind_text words.text fault.kind
    → codes "abd: " ++ name ++ codes ": line " ++ line ++ codes ": " ++ title ++ codes " " ++ number ++ codes " " ++ text ++ codes "\n" ≡ fault_line words name fault
unfolding fault_line
fault_pieces words fault name line title number text lined titled numbered called =
    rw (lined, titled, numbered, called)
    (regroup (codes "abd: " ++ name) (codes ": ") (codes "line ") (decimal fault.line) (codes ": ") words.title (codes " ") (decimal (fault_number words.number words.device words.memory fault.kind)) (codes " ") (kind_text words.text fault.kind) (codes "\n"))
