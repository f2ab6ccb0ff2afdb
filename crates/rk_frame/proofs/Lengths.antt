-- What the length at the front says of a frame there.
use Rattle.std.proofs.Common.{◌≡◌, ℕ, ◌+◌, ◌-◌, ◌<◌, ◌≤◌, ◌^◌, List, ◌++◌, length, take, drop, refl, sym, ap, subst, ◌∙◌, append_assoc, arith}
use Rattle.std.specs.Int.{w32, to_be_bytes, from_be_bytes}
use Rattle.std.proofs.lemmas.Bool.{cases_lt}
use Rattle.std.proofs.lemmas.Bool.Decides.{nat_tests}
use Rattle.std.proofs.lemmas.List.{take_at, drop_at, take-append-le, take-append-drop, drop-drop, length-append, length-take}
use Rattle.std.proofs.lemmas.Nat.{be_bytes_4, from_be_bytes-to_be_bytes_4}
use Rattle.std.proofs.Common.{inl, inr, Some, None}
use Rattle.rk_lemmas.proofs.Lists.{IsBytes, IsBytes-take}
use Rattle.rk_frame.specs.declared.fault.FrameFault.{FrameFault}
use Rattle.rk_frame.specs.Framing.{IsBody, frame, HasNoFrame, fault_of}

-- the length that the first four bytes say
abbrev pub front_len : List ℕ → ℕ
front_len bytes = from_be_bytes w32 (take 4 bytes)

header_len : (n : ℕ) → length (to_be_bytes w32 n) ≡ 4
header_len n = refl

-- what a frame at the front shows
pub record Shows (bytes body more : List ℕ) : Type 0 where
  pub len : front_len bytes ≡ length body
  pub after : drop 4 bytes ≡ body ++ more
  pub room : length bytes ≡ 4 + (length body + length more)

-- bytes that begin with a frame show its body and what follows
pub shows : (bytes body more : List ℕ) → IsBody body → bytes ≡ frame body ++ more → Shows bytes body more
shows bytes body more fits e =
    let grouped : bytes ≡ to_be_bytes w32 (length body) ++ (body ++ more) = e ∙ append_assoc (to_be_bytes w32 (length body)) body more in
    let first : take 4 bytes ≡ to_be_bytes w32 (length body) = ap (take 4) grouped ∙ take_at (to_be_bytes w32 (length body)) (body ++ more) 4 (header_len (length body)) in
    let lt : length body < 2 ^ 32 = omega (arith, fits.1) in
    record {
      len = ap (from_be_bytes w32) first ∙ from_be_bytes-to_be_bytes_4 (length body) lt;
      after = ap (drop 4) grouped ∙ drop_at (to_be_bytes w32 (length body)) (body ++ more) 4 (header_len (length body));
      room = ap length grouped ∙ length-append (to_be_bytes w32 (length body)) (body ++ more) ∙ ap (λ (k : ℕ). 4 + k) (length-append body more);
    }

-- fewer than four bytes hold no frame
pub none_short : (bytes : List ℕ) → length bytes < 4 → HasNoFrame bytes
none_short bytes lt body more fits e = let s = shows bytes body more fits e in omega (arith, s.room)

-- a length of 0 is that of no frame
pub none_empty : (bytes : List ℕ) → front_len bytes ≡ 0 → HasNoFrame bytes
none_empty bytes z body more fits e = let s = shows bytes body more fits e in omega (arith, s.len, z, fits.0)

-- a length above 65,536 is that of no frame
pub none_long : (bytes : List ℕ) → 65536 < front_len bytes → HasNoFrame bytes
none_long bytes gt body more fits e = let s = shows bytes body more fits e in omega (arith, s.len, gt, fits.1)

-- bytes that end before their length does hold no frame at the front
pub none_cut : (bytes : List ℕ) → length (drop 4 bytes) < front_len bytes → HasNoFrame bytes
none_cut bytes lt body more fits e =
    let s = shows bytes body more fits e in
    let n : length (drop 4 bytes) ≡ length body + length more = ap length s.after ∙ length-append body more in
    omega (arith, s.len, lt, n)

-- bytes with their whole length there are a frame and what follows
pub is_frame : (bytes : List ℕ) (n : ℕ) → IsBytes bytes → front_len bytes ≡ n → 4 ≤ length bytes → n ≤ length (drop 4 bytes) → bytes ≡ frame (take n (drop 4 bytes)) ++ drop (4 + n) bytes
is_frame bytes n fits e long enough =
    let len : length (take n (drop 4 bytes)) ≡ n = omega (arith, length-take n (drop 4 bytes)) in
    let header : to_be_bytes w32 n ≡ take 4 bytes = be_bytes_4 (take 4 bytes) n (omega (arith, length-take 4 bytes)) (IsBytes-take 4 bytes fits) (sym e) in
    let tail : take n (drop 4 bytes) ++ drop (4 + n) bytes ≡ drop 4 bytes = ap (λ (t : List ℕ). take n (drop 4 bytes) ++ t) (sym (drop-drop n 4 bytes)) ∙ take-append-drop n (drop 4 bytes) in
    let parts : to_be_bytes w32 n ++ (take n (drop 4 bytes) ++ drop (4 + n) bytes) ≡ bytes = ap (λ (h : List ℕ). h ++ (take n (drop 4 bytes) ++ drop (4 + n) bytes)) header ∙ ap (λ (t : List ℕ). take 4 bytes ++ t) tail ∙ take-append-drop 4 bytes in
    sym parts ∙ sym (append_assoc (to_be_bytes w32 n) (take n (drop 4 bytes)) (drop (4 + n) bytes)) ∙ ap (λ (k : ℕ). (to_be_bytes w32 k ++ take n (drop 4 bytes)) ++ drop (4 + n) bytes) (sym len)

-- the frame at the front of what a buffer holds from t on
pub front_at : (xs : List ℕ) (t n : ℕ) (front held body : List ℕ) → front ≡ drop t xs → held ≡ drop t xs → IsBody (take n (drop 4 front)) → front ≡ frame (take n (drop 4 front)) ++ drop (4 + n) front
    → body ≡ take (t + 4 + n - (t + 4)) (drop (t + 4) xs) → IsBody body × (held ≡ frame body ++ drop (t + 4 + n) xs)
front_at xs t n front held body f h fits whole b =
    let k : t + 4 + n - (t + 4) ≡ n = omega arith in
    let body-is : body ≡ take n (drop 4 front) = b ∙ ap (λ (m : ℕ). take m (drop (t + 4) xs)) k ∙ ap (take n) (sym (drop-drop 4 t xs)) ∙ ap (λ (y : List ℕ). take n (drop 4 y)) (sym f) in
    let m : t + (4 + n) ≡ t + 4 + n = omega arith in
    let rest-is : drop (4 + n) front ≡ drop (t + 4 + n) xs = ap (drop (4 + n)) f ∙ drop-drop (4 + n) t xs ∙ ap (λ (m : ℕ). drop m xs) m in
    let P : List ℕ → Type 0 = λ y. IsBody y × (held ≡ frame y ++ drop (t + 4 + n) xs) in
    subst P (sym body-is) (fits, h ∙ sym f ∙ whole ∙ ap (λ (y : List ℕ). frame (take n (drop 4 front)) ++ y) rest-is)

-- a frame at the front is no fault
pub fault_of-frame : (bytes body more : List ℕ) → IsBody body → bytes ≡ frame body ++ more → fault_of bytes ≡ None
fault_of-frame bytes body more fits e =
    let s = shows bytes body more fits e in
    grind (arith, nat_tests, s.len, s.room, fits)

-- four bytes that are there decide the fault, whatever follows
pub fault-append : (bytes more : List ℕ) (f : FrameFault) → fault_of bytes ≡ Some f → fault_of (bytes ++ more) ≡ Some f
fault-append bytes more f e =
    elim (cases_lt (length bytes) 4) [
      | inl short ↦ absurd (grind (arith, nat_tests, short, e))
      | inr long ↦
          let longer : length (bytes ++ more) ≡ length bytes + length more = length-append bytes more in
          let same : take 4 (bytes ++ more) ≡ take 4 bytes = take-append-le 4 bytes more long in
          grind (arith, nat_tests, longer, same, long, e)
    ]
