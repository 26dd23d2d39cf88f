-- What is known of an answer that is handed on, and of the bytes that are kept or dropped with it.
use Rattle.std.proofs.Common.{◌≡◌, ℕ, List, ◌++◌, Result, Ok, Err, sym, ◌∙◌, subst}
use Rattle.std.specs.Prelude.{OnOk}

-- the same answer succeeds with the same
pub same_ok : {T E : Type 0} (P : Type 0) (result added : Result T E) → result ≡ added → OnOk added P → OnOk result P
same_ok P result added same h = subst (λ r. OnOk r P) (sym same) h

-- what was added is kept
pub added_kept : {T E : Type 0} (result added : Result T E) (out mid new text : List ℕ) → result ≡ added
    → OnOk result (new ≡ mid) → OnOk added (mid ≡ out ++ text) → OnOk result (new ≡ out ++ text)
added_kept (Ok x) added out mid new text same kept grown =
    kept ∙ same_ok (mid ≡ out ++ text) (Ok x) added same grown
added_kept (Err e) added out mid new text same kept grown = tt
