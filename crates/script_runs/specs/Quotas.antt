-- Of a list at most so many items are shown, and those after them are counted.
use Rattle.std.specs.Prelude.{ℕ, ◌≡◌, ◌-◌, ◌+◌, ◌<◌, ◌≤◌, List, length, min, take}
use Rattle.script_runs.specs.declared.quota.Quota.{Quota}

-- the greatest count of items that aren't shown
abbrev pub last_count : ℕ
last_count = 18446744073709551615

-- the quota after so many items, of which at most so many are shown
pub record IsQuotaAfter (most count : ℕ) (quota : Quota) : Type 0 where
  pub left : quota.left ≡ most - count
  pub omitted : quota.omitted ≡ min (count - most) last_count

-- the second quota is that after one item more
abbrev pub GoesOn : Quota → Quota → Type 0
GoesOn old new =
    (most count : ℕ) → IsQuotaAfter most count old → IsQuotaAfter most (count + 1) new

-- one item more is shown
abbrev pub HasRoom : Quota → Type 0
HasRoom quota = (most count : ℕ) → IsQuotaAfter most count quota → count < most

-- no item more is shown
abbrev pub IsFull : Quota → Type 0
IsFull quota = (most count : ℕ) → IsQuotaAfter most count quota → most ≤ count

-- of the items the first ones are shown, at most so many, and the quota is that after all of them
pub record ShowsFirst {A : Type 0} (Shows : List A → Type 0) (most : ℕ) (items : List A)
    (quota : Quota) : Type 0 where
  pub shows : Shows (take most items)
  pub counted : IsQuotaAfter most (length items) quota
