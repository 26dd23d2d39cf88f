-- Bytes are read as one script.
use Rattle.std.proofs.Common.{ℕ, ◌≡◌, ◌+◌, List, [], ◌∷◌, ◌++◌, length, Option, Some, None, Result}
use Rattle.std.proofs.Common.{Ok, refl, sym, ap, ◌∙◌, subst, arith, length-append}
use Rattle.std.specs.Prelude.{option_map}
use Rattle.counted_devices.specs.Cuts.{last_lines}
use Rattle.counted_devices.proofs.CutOnce.{splits_once}
use Rattle.script_runs.specs.declared.command.Script.{Script}
use Rattle.fault_script.specs.declared.parse_line.ConfigSoFar.{ConfigSoFar}
use Rattle.fault_script.specs.declared.parse_line.Said.{Said}
use Rattle.fault_script.specs.declared.fault.LineFault.{LineFault}
use Rattle.fault_script.specs.Lines.{ScriptLineSays, is_long, is_no_text, says}
use Rattle.fault_script.specs.Scripts.{SaidLine, opened_of, commands_of, ScriptLinesSay, no_line, blank_line, command_line, IsScript}

-- a line shows one thing
shows_once : (before : Option ConfigSoFar) (count : ℕ) (line : List ℕ) (a b : Result (Option Said) LineFault)
    → ScriptLineSays before count line a → ScriptLineSays before count line b → a ≡ b
shows_once before count line a b (is_long h) (is_long k) = refl
shows_once before count line a b (is_long h) (is_no_text short k) = absurd (omega arith)
shows_once before count line a b (is_long h) (says y short text k) = absurd (omega arith)
shows_once before count line a b (is_no_text short h) (is_long k) = absurd (omega arith)
shows_once before count line a b (is_no_text short h) (is_no_text shorter k) = refl
shows_once before count line a b (is_no_text short h) (says y shorter text k) = absurd (h text)
shows_once before count line a b (says x short text h) (is_long k) = absurd (omega arith)
shows_once before count line a b (says x short text h) (is_no_text shorter k) = absurd (k text)
shows_once before count line a b (says x short text h) (says y shorter texts k) = sym h ∙ k

-- the last of a list
last_once : (xs ys : List (List ℕ)) (x y : List ℕ) → xs ++ x ∷ [] ≡ ys ++ y ∷ [] → (xs ≡ ys) × (x ≡ y)
last_once [] [] x y e = (refl, cc)
last_once [] (b ∷ ys) x y e = absurd (omega (arith, ap length e, length-append ys (y ∷ [])))
last_once (a ∷ xs) [] x y e = absurd (omega (arith, ap length e, length-append xs (x ∷ [])))
last_once (a ∷ xs) (b ∷ ys) x y e =
    let rest : xs ++ x ∷ [] ≡ ys ++ y ∷ [] = cc in
    let w = last_once xs ys x y rest in
    (let same = w.0 in cc, w.1)

never_empty : (xs : List (List ℕ)) (x : List ℕ) → [] ≡ xs ++ x ∷ [] → ⊥
never_empty xs x e = omega (arith, ap length e, length-append xs (x ∷ []))

abbrev shown : Option Said → Result (Option Said) LineFault
shown said = Ok said

same_shown : (before earlier : List SaidLine) (x y : List ℕ) (a b : Option Said) → before ≡ earlier → x ≡ y
    → ScriptLineSays (opened_of before) (length before) x (Ok a) → ScriptLineSays (opened_of earlier) (length earlier) y (Ok b) → a ≡ b
same_shown before earlier x y a b p q h k =
    let P : List SaidLine → Type 0 = λ s. ScriptLineSays (opened_of s) (length s) x (Ok a) in
    let Q : List ℕ → Type 0 = λ l. ScriptLineSays (opened_of earlier) (length earlier) l (Ok a) in
    let e : shown a ≡ shown b = shows_once (opened_of earlier) (length earlier) y (Ok a) (Ok b) (subst Q q (subst P p h)) k in
    cc

-- lines are read in one way
read_once : (ls ms : List (List ℕ)) (xs ys : List SaidLine) → ls ≡ ms → ScriptLinesSay ls xs → ScriptLinesSay ms ys → xs ≡ ys
read_once ls ms xs ys e no_line no_line = refl
read_once ls ms xs ys e no_line (blank_line ns zs m k s) = absurd (never_empty ns m e)
read_once ls ms xs ys e no_line (command_line ns zs m said k s) = absurd (never_empty ns m e)
read_once ls ms xs ys e (blank_line ks ws l h r) no_line = absurd (never_empty ks l (sym e))
read_once ls ms xs ys e (command_line ks ws l said h r) no_line = absurd (never_empty ks l (sym e))
read_once ls ms xs ys e (blank_line ks ws l h r) (blank_line ns zs m k s) =
    let w = last_once ks ns l m e in
    read_once ks ns ws zs w.0 h k
read_once ls ms xs ys e (blank_line ks ws l h r) (command_line ns zs m said k s) =
    let w = last_once ks ns l m e in
    let same : None ≡ Some said = same_shown ws zs l m None (Some said) (read_once ks ns ws zs w.0 h k) w.1 r s in
    absurd (cc)
read_once ls ms xs ys e (command_line ks ws l said h r) (blank_line ns zs m k s) =
    let w = last_once ks ns l m e in
    let same : Some said ≡ None = same_shown ws zs l m (Some said) None (read_once ks ns ws zs w.0 h k) w.1 r s in
    absurd (cc)
read_once ls ms xs ys e (command_line ks ws l said h r) (command_line ns zs m other k s) =
    let w = last_once ks ns l m e in
    let before = read_once ks ns ws zs w.0 h k in
    let same : Some said ≡ Some other = same_shown ws zs l m (Some said) (Some other) before w.1 r s in
    let one : said ≡ other = cc in
    λ i. before i ++ record { line = length (w.0 i) + 1; said = one i } ∷ []

-- bytes are read as one script
pub script_once : (bytes : List ℕ) (a b : Script) → IsScript bytes a → IsScript bytes b → (a.config ≡ b.config)
    × (a.commands.items ≡ b.commands.items)
script_once bytes a b h k =
    let w = splits_once bytes h.lines k.lines h.rest k.rest h.splits k.splits in
    let lines : last_lines h.lines h.rest ≡ last_lines k.lines k.rest = λ i. last_lines (w.0 i) (w.1 i) in
    let same = read_once (last_lines h.lines h.rest) (last_lines k.lines k.rest) h.saids k.saids lines h.read k.read in
    let config = sym h.made.config ∙ ap (λ (s : List SaidLine). option_map (λ (opened : ConfigSoFar). opened.config) (opened_of s)) same
    ∙ k.made.config in
    (cc, h.made.commands ∙ ap commands_of same ∙ sym k.made.commands)
