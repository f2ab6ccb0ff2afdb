-- A stream has one reading, and the calls follow it.
use Rattle.std.proofs.Common.{◌≡◌, ℕ, zero, suc, ◌+◌, ◌≤◌, List, [], ◌∷◌, ◌++◌, length, take, drop, refl, sym, ap, ◌∙◌, append_assoc, arith, inl, inr, Some}
use Rattle.std.specs.List.{flat_map, AllByRecursion}
use Rattle.std.proofs.lemmas.List.{take_at, drop_at, append-nil, length-take, length-drop}
use Rattle.std.proofs.lemmas.Bool.{cases_lt}
use Rattle.std.proofs.lemmas.List.Concat.{flat_map-cons}
use Rattle.rk_frame.specs.declared.fault.FrameFault.{FrameFault}
use Rattle.rk_frame.specs.Framing.{IsBody, frame, HasNoFrame, Splits, fault_of}
use Rattle.rk_frame.specs.Calls.{Call, Make, Fed, Gave, Waited, Failed, stream_of, bodies_of}
use Rattle.rk_frame.specs.Laws.{HasOneReading, HasAReading, HandsOutInOrder, HasHandedOutAll, IsFedOrFails, answer_at_end, AnswersTheNext, KeepsItsFault}
use Rattle.rk_lemmas.proofs.Lists.{IsBytes, IsBytes-drop}
use Rattle.rk_frame.proofs.Lengths.{front_len, shows, none_short, none_empty, none_long, none_cut, is_frame, fault-append, fault_of-frame}

-- two frames at the front of one stream are one
pub one_frame : (a b x y : List ℕ) → IsBody a → IsBody b → frame a ++ x ≡ frame b ++ y → (a ≡ b) × (x ≡ y)
one_frame a b x y fa fb e =
    let s = shows (frame a ++ x) a x fa refl in
    let t = shows (frame a ++ x) b y fb e in
    let lens : length a ≡ length b = sym s.len ∙ t.len in
    let both : a ++ x ≡ b ++ y = sym s.after ∙ t.after in
    (sym (take_at a x (length a) refl) ∙ ap (take (length a)) both ∙ take_at b y (length a) (sym lens), sym (drop_at a x (length a) refl) ∙ ap (drop (length a)) both ∙ drop_at b y (length a) (sym lens))

pub cons_frame : (b : List ℕ) (bs : List (List ℕ)) (rest : List ℕ) → flat_map frame (b ∷ bs) ++ rest ≡ frame b ++ (flat_map frame bs ++ rest)
cons_frame b bs rest = ap (λ (t : List ℕ). t ++ rest) (flat_map-cons frame b bs) ∙ append_assoc (frame b) (flat_map frame bs) rest

pub one_reading : (bodies others : List (List ℕ)) (rest rest' : List ℕ) → AllByRecursion IsBody bodies → AllByRecursion IsBody others → HasNoFrame rest → HasNoFrame rest'
    → flat_map frame bodies ++ rest ≡ flat_map frame others ++ rest' → (bodies ≡ others) × (rest ≡ rest')
one_reading [] [] rest rest' fa fb na nb e = (refl, e)
one_reading [] (c ∷ cs) rest rest' fa fb na nb e = absurd (na c (flat_map frame cs ++ rest') fb.0 (e ∙ cons_frame c cs rest'))
one_reading (b ∷ bs) [] rest rest' fa fb na nb e = absurd (nb b (flat_map frame bs ++ rest) fa.0 (sym e ∙ cons_frame b bs rest))
one_reading (b ∷ bs) (c ∷ cs) rest rest' fa fb na nb e =
    let one = one_frame b c (flat_map frame bs ++ rest) (flat_map frame cs ++ rest') fa.0 fb.0 (sym (cons_frame b bs rest) ∙ e ∙ cons_frame c cs rest') in
    let more = one_reading bs cs rest rest' fa.1 fb.1 na nb one.1 in
    (cc, more.1)

-- a stream has at most one list of bodies, and one rest
pub has_one_reading : HasOneReading
has_one_reading stream bodies others rest rest' a b = one_reading bodies others rest rest' a.each b.each a.ended b.ended (sym a.whole ∙ b.whole)

-- what the calls hand out, and what is held then, are what was held before and what was fed
pub keeps : (calls : List Call) (old new : List ℕ) → Make calls old new → (old ++ stream_of calls ≡ flat_map frame (bodies_of calls) ++ new) × AllByRecursion IsBody (bodies_of calls)
keeps [] old new m = (append-nil old ∙ sym m, tt)
keeps (Fed piece ∷ cs) old new m =
    let r = keeps cs m.0 new m.2 in
    (sym (append_assoc old piece (stream_of cs)) ∙ ap (λ (t : List ℕ). t ++ stream_of cs) (sym m.1) ∙ r.0, r.1)
keeps (Gave body ∷ cs) old new m =
    let r = keeps cs m.0 new m.2 in
    (ap (λ (t : List ℕ). t ++ stream_of cs) m.1.1 ∙ append_assoc (frame body) m.0 (stream_of cs) ∙ ap (λ (t : List ℕ). frame body ++ t) r.0 ∙ sym (cons_frame body (bodies_of cs) new), (m.1.0, r.1))
keeps (Waited ∷ cs) old new m =
    let r = keeps cs m.0 new m.2 in
    (ap (λ (t : List ℕ). t ++ stream_of cs) (sym m.1.0) ∙ r.0, r.1)
keeps (Failed f ∷ cs) old new m =
    let r = keeps cs m.0 new m.2 in
    (ap (λ (t : List ℕ). t ++ stream_of cs) (sym m.1.0) ∙ r.0, r.1)

-- the bodies of a stream after a front that is frames
pub later_of : (front bodies : List (List ℕ)) (held rest : List ℕ) → AllByRecursion IsBody front → AllByRecursion IsBody bodies → HasNoFrame rest
    → flat_map frame front ++ held ≡ flat_map frame bodies ++ rest → (later : List (List ℕ)) × (bodies ≡ front ++ later) × Splits held later rest
later_of [] bodies held rest ff fb n e = (bodies, refl, record { whole = e; each = fb; ended = n })
later_of (b ∷ bs) [] held rest ff fb n e = absurd (n b (flat_map frame bs ++ held) ff.0 (sym e ∙ cons_frame b bs held))
later_of (b ∷ bs) (c ∷ cs) held rest ff fb n e =
    let one = one_frame b c (flat_map frame bs ++ held) (flat_map frame cs ++ rest) ff.0 fb.0 (sym (cons_frame b bs held) ∙ e ∙ cons_frame c cs rest) in
    let more = later_of bs cs held rest ff.1 fb.1 n one.1 in
    let same : c ∷ cs ≡ (b ∷ bs) ++ more.0 = let h = more.1 in let g = one.0 in cc in
    (more.0, same, more.2)

-- the bodies are handed out in order, however the stream was cut
pub hands_out_in_order : HandsOutInOrder
hands_out_in_order calls held m bodies rest s =
    let k = keeps calls [] held m in
    later_of (bodies_of calls) bodies held rest k.1 s.each s.ended (sym k.0 ∙ s.whole)

-- where More or a fault is answered, all bodies of the stream so far were handed out
pub has_handed_out_all : HasHandedOutAll
has_handed_out_all calls held m n =
    let k = keeps calls [] held m in
    record { whole = k.0; each = k.1; ended = n }

-- a reading of what follows a frame is one of the frame and what follows
with_front : (stream body rest : List ℕ) → IsBody body → stream ≡ frame body ++ rest → ((bodies : List (List ℕ)) × (end : List ℕ) × Splits rest bodies end)
    → (bodies : List (List ℕ)) × (end : List ℕ) × Splits stream bodies end
with_front stream body rest fits e r =
    (body ∷ r.0, r.1, record { whole = e ∙ ap (λ (t : List ℕ). frame body ++ t) r.2.whole ∙ sym (cons_frame body r.0 r.1); each = (fits, r.2.each); ended = r.2.ended })

no_more : (stream : List ℕ) → HasNoFrame stream → (bodies : List (List ℕ)) × (end : List ℕ) × Splits stream bodies end
no_more stream n = ([], stream, record { whole = refl; each = tt; ended = n })

reading_within : (k : ℕ) (stream : List ℕ) → length stream ≤ k → IsBytes stream → (bodies : List (List ℕ)) × (end : List ℕ) × Splits stream bodies end
reading_within zero stream le fits = no_more stream (none_short stream (omega arith))
reading_within (suc k) stream le fits =
    elim (cases_lt (length stream) 4) [
      | inl short ↦ no_more stream (none_short stream short)
      | inr long ↦ elim (cases_lt (front_len stream) 1) [
        | inl none ↦ no_more stream (none_empty stream (omega (arith, none)))
        | inr some ↦ elim (cases_lt 65536 (front_len stream)) [
          | inl great ↦ no_more stream (none_long stream great)
          | inr least ↦ elim (cases_lt (length (drop 4 stream)) (front_len stream)) [
            | inl cut ↦ no_more stream (none_cut stream cut)
            | inr enough ↦
                let n = front_len stream in
                let len : length (take n (drop 4 stream)) ≡ n = omega (arith, length-take n (drop 4 stream)) in
                let body : IsBody (take n (drop 4 stream)) = (omega (arith, some), omega (arith, least)) in
                let left : length (drop (4 + n) stream) ≤ k = omega (arith, length-drop (4 + n) stream) in
                with_front stream (take n (drop 4 stream)) (drop (4 + n) stream) body (is_frame stream n fits refl long enough) (reading_within k (drop (4 + n) stream) left (IsBytes-drop (4 + n) stream fits))
          ]
        ]
      ]
    ]

-- every stream has a list of bodies and a rest
pub has_a_reading : HasAReading
has_a_reading stream fits = reading_within (length stream) stream (omega arith) fits

-- what `next` may answer of held bytes is settled by their bodies and their rest
pub answers_the_next : AnswersTheNext
answers_the_next held new [] rest (Fed piece) s a m = absurd a
answers_the_next held new [] rest (Gave body) s a m = absurd (s.ended body new m.0 (sym s.whole ∙ m.1))
answers_the_next held new [] rest Waited s a m = ap answer_at_end (sym m.2 ∙ ap fault_of s.whole)
answers_the_next held new [] rest (Failed f) s a m = ap answer_at_end (sym m.2 ∙ ap fault_of s.whole)
answers_the_next held new (b ∷ bs) rest (Fed piece) s a m = absurd a
answers_the_next held new (b ∷ bs) rest (Gave body) s a m =
    let one = one_frame body b new (flat_map frame bs ++ rest) m.0 s.each.0 (sym m.1 ∙ s.whole ∙ cons_frame b bs rest) in
    ap Gave one.0
answers_the_next held new (b ∷ bs) rest Waited s a m = absurd (m.1 b (flat_map frame bs ++ rest) s.each.0 (s.whole ∙ cons_frame b bs rest))
answers_the_next held new (b ∷ bs) rest (Failed f) s a m = absurd (m.1 b (flat_map frame bs ++ rest) s.each.0 (s.whole ∙ cons_frame b bs rest))

-- bytes with a fault at their front keep it whatever is fed, and `next` finds nothing else
fault_stays : (f : FrameFault) (calls : List Call) (held new : List ℕ) → fault_of held ≡ Some f → Make calls held new → AllByRecursion (IsFedOrFails f) calls
fault_stays f [] held new e m = tt
fault_stays f (Fed piece ∷ cs) held new e m = (tt, fault_stays f cs m.0 new (ap fault_of m.1 ∙ fault-append held piece f e) m.2)
fault_stays f (Gave body ∷ cs) held new e m = absurd (let none = fault_of-frame held body m.0 m.1.0 m.1.1 in let n = sym none ∙ e in cc)
fault_stays f (Waited ∷ cs) held new e m = absurd (let n = sym m.1.2 ∙ e in cc)
fault_stays f (Failed g ∷ cs) held new e m =
    let n = sym m.1.2 ∙ e in
    (cc, fault_stays f cs m.0 new (ap fault_of m.1.0 ∙ e) m.2)

-- a fault is answered from then on for good
pub keeps_its_fault : KeepsItsFault
keeps_its_fault f calls old held new failed m = fault_stays f calls held new (ap fault_of failed.0 ∙ failed.2) m
