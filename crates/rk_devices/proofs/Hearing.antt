-- What was heard of a child, and what was said to it.
use Rattle.std.proofs.Common.{◌≡◌, ◌≢◌, ◌≤◌, ℕ, List, [], ◌∷◌, ◌++◌, length, map, inl, inr, refl, sym, ap, subst, ◌∙◌, append-nil}
use Rattle.std.specs.Prelude.{Option, Result, Ok, Err, take}
use Rattle.std.proofs.lemmas.List.{length-take-le, map-append}
use Rattle.std.proofs.lemmas.List.Elements.{All-nil, All-push}
use Rattle.std.proofs.lemmas.List.Sums.{fold_push}
use Rattle.rk_devices.specs.declared.device.DeviceFault.{DeviceFault}
use Rattle.rk_devices.specs.declared.reading.ReadFault.{ReadFault}
use Rattle.rk_devices.specs.declared.reading.ReadFault.TheVariants.{Failed}
use Rattle.rk_devices.specs.Counts.{Rose}
use Rattle.rk_devices.specs.Outputs.{kept_of, put_out}
use Rattle.rk_devices.specs.Shown.{ArePieces, ChildShown, Heard, HearsPieces, IsGiven, IsHeard, IsKept, Reads, Writes, and_then, closed}
use Rattle.rk_devices.proofs.Rising.{and_more, and_none}

-- a child was read so far, and nothing else passed: these pieces were heard
abbrev pub AreHeard : List (List ℕ) → ChildShown → ChildShown → Type 0
AreHeard pieces old new = (new.closed ≡ old.closed) × ArePieces pieces × (new.story ≡ and_then old.story (map Heard pieces))

-- some pieces were
abbrev pub HearsMore : ChildShown → ChildShown → Type 0
HearsMore old new = (pieces : List (List ℕ)) × AreHeard pieces old new

-- and they were kept
abbrev pub KeepsMore : ChildShown → ChildShown → Option (List ℕ) → Option (List ℕ) → Type 0
KeepsMore old new before after = (pieces : List (List ℕ)) × AreHeard pieces old new × (after ≡ kept_of before pieces)

-- ---- pieces

none_heard : (a : ChildShown) → AreHeard [] a a
none_heard a = (refl, All-nil (λ (piece : List ℕ). piece ≢ []), and_none a.story)

-- some bytes of a buffer are not none
pub some_heard : (n size : ℕ) (buf : List ℕ) → n ≢ 0 → n ≤ size → length buf ≡ size → take n buf ≢ []
some_heard n size buf some le same none =
    let taken : length (take n buf) ≡ n = length-take-le n buf (subst (λ m. n ≤ m) (sym same) le) in
    some (sym taken ∙ ap length none)

one_heard : (pieces : List (List ℕ)) (n room : ℕ) (buf : List ℕ) (a b c : ChildShown) → n ≢ 0 → n ≤ room → length buf ≡ room → AreHeard pieces a b
    → Reads room (Ok n) buf b c → AreHeard (pieces ++ take n buf ∷ []) a c
one_heard pieces n room buf a b c some le same (shut, all, told) read =
    let piece : List ℕ = take n buf in (
      ap (λ (x : ChildShown). x.closed) read.1 ∙ shut,
      All-push (λ (piece : List ℕ). piece ≢ []) pieces piece all (some_heard n room buf some le same),
      ap (λ (x : ChildShown). x.story) read.1 ∙ ap (λ t. and_then t (Heard piece ∷ [])) told ∙ and_more a.story (map Heard pieces) (Heard piece ∷ [])
          ∙ ap (and_then a.story) (sym (map-append Heard pieces (piece ∷ []))),
    )

end_of_pieces : (pieces : List (List ℕ)) (room : ℕ) (buf : List ℕ) (a b c : ChildShown) → AreHeard pieces a b → Reads room (Ok 0) buf b c
    → HearsPieces pieces (Ok tt) a c
end_of_pieces pieces room buf a b c (shut, all, told) read = (
  ap (λ (x : ChildShown). x.closed) read.1 ∙ shut,
  all,
  ap (λ (x : ChildShown). x.story) read.1 ∙ ap (λ t. and_then t (Heard [] ∷ [])) told ∙ and_more a.story (map Heard pieces) (Heard [] ∷ []),
)

no_more_pieces : (pieces : List (List ℕ)) (f : ReadFault) (a b : ChildShown) → AreHeard pieces a b → HearsPieces pieces (Err f) a b
no_more_pieces pieces f a b (shut, all, told) = (shut, all, told ∙ ap (and_then a.story) (sym (append-nil (map Heard pieces))))

failed_piece : (pieces : List (List ℕ)) (room : ℕ) (e : DeviceFault) (buf : List ℕ) (a b c : ChildShown) → AreHeard pieces a b → Reads room (Err e) buf b c
    → HearsPieces pieces (Err Failed) a c
failed_piece pieces room e buf a b c (shut, all, told) read = (
  ap (λ (x : ChildShown). x.closed) read.1 ∙ shut,
  all,
  ap (λ (x : ChildShown). x.story) read.1 ∙ ap (λ t. and_then t []) told ∙ and_more a.story (map Heard pieces) [],
)

-- ---- what is heard and dropped

-- no read so far
pub hears_none : (a : ChildShown) → HearsMore a a
hears_none a = ([], none_heard a)

-- a piece more
pub hears_more : (n room : ℕ) (buf : List ℕ) (a b c : ChildShown) → n ≢ 0 → n ≤ room → length buf ≡ room → HearsMore a b → Reads room (Ok n) buf b c
    → HearsMore a c
hears_more n room buf a b c some le same h read = (h.0 ++ take n buf ∷ [], one_heard h.0 n room buf a b c some le same h.1 read)

-- the end of the output
pub hears_end : (room : ℕ) (buf : List ℕ) (a b c : ChildShown) → HearsMore a b → Reads room (Ok 0) buf b c → IsHeard (Ok tt) a c
hears_end room buf a b c h read = (h.0, end_of_pieces h.0 room buf a b c h.1 read)

-- no more is read, for this reason
pub hears_fault : (f : ReadFault) (a b : ChildShown) → HearsMore a b → IsHeard (Err f) a b
hears_fault f a b h = (h.0, no_more_pieces h.0 f a b h.1)

-- a read that failed
pub hears_failed : (room : ℕ) (e : DeviceFault) (buf : List ℕ) (a b c : ChildShown) → HearsMore a b → Reads room (Err e) buf b c → IsHeard (Err Failed) a c
hears_failed room e buf a b c h read = (h.0, failed_piece h.0 room e buf a b c h.1 read)

-- ---- what is heard and kept

-- nothing so far
pub keeps_none : (a : ChildShown) (o : Option (List ℕ)) → KeepsMore a a o o
keeps_none a o = ([], none_heard a, refl)

-- a piece more
pub keeps_more : (n room : ℕ) (buf : List ℕ) (a b c : ChildShown) (x y z : Option (List ℕ)) → n ≢ 0 → n ≤ room → length buf ≡ room → KeepsMore a b x y
    → Reads room (Ok n) buf b c → z ≡ put_out y (take n buf) → KeepsMore a c x z
keeps_more n room buf a b c x y z some le same (pieces, heard, kept) read is = (
  pieces ++ take n buf ∷ [],
  one_heard pieces n room buf a b c some le same heard read,
  is ∙ ap (λ o. put_out o (take n buf)) kept ∙ sym (fold_push put_out x pieces (take n buf)),
)

-- the end of the output
pub keeps_end : (room : ℕ) (buf : List ℕ) (a b c : ChildShown) (x y : Option (List ℕ)) → KeepsMore a b x y → Reads room (Ok 0) buf b c
    → IsKept (Ok tt) a c x y
keeps_end room buf a b c x y (pieces, heard, kept) read = (pieces, end_of_pieces pieces room buf a b c heard read, kept)

-- no more is read, for this reason
pub keeps_fault : (f : ReadFault) (a b : ChildShown) (x y : Option (List ℕ)) → KeepsMore a b x y → IsKept (Err f) a b x y
keeps_fault f a b x y (pieces, heard, kept) = (pieces, no_more_pieces pieces f a b heard, kept)

-- a read that failed
pub keeps_failed : (room : ℕ) (e : DeviceFault) (buf : List ℕ) (a b c : ChildShown) (x y : Option (List ℕ)) → KeepsMore a b x y → Reads room (Err e) buf b c
    → IsKept (Err Failed) a c x y
keeps_failed room e buf a b c x y (pieces, heard, kept) read = (pieces, failed_piece pieces room e buf a b c heard read, kept)

-- ---- what is said

-- the callout was written, or tried, and then the input closed
pub written_given : (r : Result Unit DeviceFault) (byte : ℕ) (bytes : List ℕ) (a b c : ChildShown) → Writes r (byte ∷ bytes) a b → c ≡ closed b
    → IsGiven (byte ∷ bytes) a c
written_given (Ok u) byte bytes a b c w is = (ap (λ (x : ChildShown). x.closed) is, inl (ap (λ (x : ChildShown). x.story) (is ∙ ap closed w)))
written_given (Err e) byte bytes a b c (rose, first, others, cut, w) is = (
  ap (λ (x : ChildShown). x.closed) is,
  inr (subst (λ (x : ChildShown). Rose a.count x.count) (sym is) rose, first, others, cut, ap (λ (x : ChildShown). x.story) (is ∙ ap closed w)),
)

-- a callout that is not empty
pub some_given : (r : Result Unit DeviceFault) (callout : List ℕ) (a b c : ChildShown) → callout ≢ [] → Writes r callout a b → c ≡ closed b → IsGiven callout a c
some_given r [] a b c some w is = absurd (some refl)
some_given r (byte ∷ bytes) a b c some w is = written_given r byte bytes a b c w is

-- no callout
pub none_given : (a b : ChildShown) → b ≡ closed a → IsGiven [] a b
none_given a b is = (ap (λ (x : ChildShown). x.closed) is, inl (ap (λ (x : ChildShown). x.story) is ∙ and_none a.story))
