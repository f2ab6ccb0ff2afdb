-- How many keys each user has, through each change.
use Rattle.rk_keys.proofs.Words.{◌∙◌, ap, ◌≡◌, refl, sym, ℕ, ◌<◌, false, cond, arith, ◌-◌, Bool, ◌+◌, option_map_or, nat_cmp, Some, None, Option, nat_eq}
use Rattle.rk_keys.proofs.Words.{unwrap_or, ◌==◌, kept_len-empty, kept_len-insert, kept_len-remove, kept_len-remove_none, kept_len-changed, changed_at}
use Rattle.rk_keys.proofs.Words.{concluded, has_all_keys, keys_of, AreCounts, Condition, Key}
use Rattle.std.specs.FinMap as map
use borrow.Author.Tests.{leb-false}
use Rattle.rk_table.specs.Counts.{count_at}

-- ---- the keys of a user

-- the key counts to this user
abbrev owned_by : ℕ → ℕ → Key → Bool
owned_by uid k key = key.owner == uid

abbrev pub KeepsOwner : (Key → Key) → Type 0
KeepsOwner f = (a : Key) → (f a).owner ≡ a.owner

same_owner : (b : Bool) (x y : ℕ) → x + cond b 1 0 ≡ y + cond b 1 0 → x ≡ y
same_owner b x y e = omega (arith, e)

keys_of-changed : (keys : map.FinMap nat_cmp Key) (k : ℕ) (f : Key → Key) → KeepsOwner f → (uid : ℕ) → keys_of (changed_at k f keys) uid ≡ keys_of keys uid
keys_of-changed keys k f keeps uid = by_key (map.get keys k) refl where
  by_key : (o : Option Key) → map.get keys k ≡ o → keys_of (changed_at k f keys) uid ≡ keys_of keys uid
  by_key None is = ap (λ o. keys_of (option_map_or (λ v. map.insert keys k (f v)) o keys) uid) is
  by_key (Some key) is =
      same_owner (key.owner == uid) (keys_of (changed_at k f keys) uid) (keys_of keys uid)
      (kept_len-changed (owned_by uid) keys k f key is ∙ ap (λ owner. keys_of keys uid + cond (owner == uid) 1 0) (keeps key))

-- ---- what the counts tell

pub few : (keys : map.FinMap nat_cmp Key) (counts : map.FinMap nat_cmp ℕ) (uid : ℕ) → AreCounts keys counts → has_all_keys keys uid ≡ false →
    count_at counts uid < 200
few keys counts uid is not_all = let same = is.each uid in let below : keys_of keys uid < 200 = leb-false 200 (keys_of keys uid) not_all in
    omega (arith, same, below)

-- ---- the counts hold through each change

-- if there are no keys, there are no counts
pub counts_empty : AreCounts map.empty map.empty
counts_empty = record { each = λ uid. ap (λ o. unwrap_or o 0) (map.get-empty nat_cmp uid) ∙ sym (kept_len-empty (owned_by uid)) }

-- counts are those of the keys after one is put in and its owner's count is one more
pub counts_with : (keys : map.FinMap nat_cmp Key) (old new : map.FinMap nat_cmp ℕ) (k : ℕ) (key : Key) → AreCounts keys old → map.get keys k ≡ None
    → ((uid : ℕ) → count_at new uid ≡ cond (nat_eq key.owner uid) (count_at old uid + 1) (count_at old uid)) → AreCounts (map.insert keys k key) new
counts_with keys old new k key counts none more = record {
  each = λ uid. more uid ∙ ap (λ n. cond (nat_eq key.owner uid) (n + 1) n) (counts.each uid) ∙ sym (kept_len-insert (owned_by uid) keys k key none);
}

-- counts are those of the keys after one is removed and its owner's count is one less
pub counts_without : (keys : map.FinMap nat_cmp Key) (old new : map.FinMap nat_cmp ℕ) (k : ℕ) (key : Key) → AreCounts keys old → map.get keys k ≡ Some key
    → ((uid : ℕ) → count_at new uid ≡ cond (nat_eq key.owner uid) (count_at old uid - 1) (count_at old uid)) → AreCounts (map.remove keys k) new
counts_without keys old new k key counts is less = record {
  each = λ uid. less uid ∙ ap (λ n. cond (nat_eq key.owner uid) (n - 1) n) (counts.each uid) ∙ sym (kept_len-remove (owned_by uid) keys k key is);
}

-- removing a key that is not there leaves the counts
pub counts_without_none : (keys : map.FinMap nat_cmp Key) (counts : map.FinMap nat_cmp ℕ) (k : ℕ) → AreCounts keys counts → map.get keys k ≡ None →
    AreCounts (map.remove keys k) counts
counts_without_none keys counts k is none = record { each = λ uid. is.each uid ∙ sym (kept_len-remove_none (owned_by uid) keys k none) }

-- a change of a key that leaves its owner leaves the counts
pub counts_changed : (keys : map.FinMap nat_cmp Key) (counts : map.FinMap nat_cmp ℕ) (k : ℕ) (f : Key → Key) → KeepsOwner f → AreCounts keys counts →
    AreCounts (changed_at k f keys) counts
counts_changed keys counts k f keeps is = record { each = λ uid. is.each uid ∙ sym (keys_of-changed keys k f keeps uid) }

-- ---- the changes keep a key's owner

-- concluding a key leaves its owner
pub concluded_keeps_owner : (condition : Condition) (expiry : Option ℕ) → KeepsOwner (concluded condition expiry)
concluded_keeps_owner condition None = λ a. refl
concluded_keeps_owner condition (Some end) = λ a. refl
