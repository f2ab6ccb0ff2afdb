-- The table in the code is the table of asks.
use Rattle.rk_message.proofs.Words.{◌≡◌, ap, refl, ℕ, sym, List, ◌∙◌, true, false, Bool, ◌∷◌, Option, Some, None, subst, length, [], cond, get_or, ◌-◌}
use Rattle.rk_message.proofs.Words.{eqb-true, length-map, ◌==◌, MatchOption, map, find, option_map, asks, op_byte, ops, ask_line, ask_fields, form, line_of}
use Rattle.rk_message.proofs.Words.{Kind, kinds_of, Op}
use Rattle.std.proofs.Math.ListN.{get_or-map}
use Rattle.rk_message.specs.declared.shape.Op.TheVariants as op
use Rattle.rk_message.specs.declared.shape.FieldKind.{FieldKind}
use Rattle.rk_message.specs.declared.shape.AskShape.{AskShape}

abbrev pub paired : Op → Op × (ℕ × List ℕ × List FieldKind)
paired o = (o, ask_line o)

abbrev kinds : Op → ℕ × List Kind
kinds o = (op_byte o, map form (ask_fields o))

abbrev pub op_of : AskShape → Op
op_of line = line.op

-- the operation that was found has this byte, or there is none
abbrev pub HasByte : ℕ → Option Op → Option (List Kind) → Type 0
HasByte byte found others = MatchOption found (others ≡ None) (λ o. op_byte o ≡ byte)

pick : (b : Bool) (byte : ℕ) (line : AskShape) (rest : Option AskShape) (ks : List Kind) (others : Option (List Kind)) → (b ≡ true → byte ≡ op_byte line.op)
    → HasByte byte (option_map op_of rest) others → HasByte byte (option_map op_of (cond b (Some line) rest)) (cond b (Some ks) others)
pick true byte line rest ks others same later = sym (same refl)
pick false byte line rest ks others same later = later

found : (lines : List AskShape) (os : List Op) (byte : ℕ) → map line_of lines ≡ map paired os
    → HasByte byte (option_map op_of (find (λ line. byte == op_byte line.op) lines)) (kinds_of (map kinds os) byte)
found [] [] byte e = refl
found [] (o ∷ os) byte e = absurd cc
found (line ∷ lines) [] byte e = absurd cc
found (line ∷ lines) (o ∷ os) byte e =
    let first : line_of line ≡ paired o = cc in
    let others : map line_of lines ≡ map paired os = cc in
    let same : line.op ≡ o = ap (λ p. p.0) first in
    subst (λ (p : Op). HasByte byte (option_map op_of (find (λ line. byte == op_byte line.op) (line ∷ lines))) (kinds_of (map kinds (p ∷ os)) byte)) same
    (pick (byte == op_byte line.op) byte line _ (map form (ask_fields line.op)) _ (λ is. eqb-true byte (op_byte line.op) is) (found lines os byte others))

-- the op of the first line that has the byte
pub op_found : (lines : List AskShape) (byte : ℕ) → map line_of lines ≡ map paired ops
    → HasByte byte (option_map op_of (find (λ line. byte == op_byte line.op) lines)) (kinds_of asks byte)
op_found lines byte e = found lines ops byte e

-- as many lines as ops
pub lines_len : (lines : List AskShape) → map line_of lines ≡ map paired ops → length lines ≡ 16
lines_len lines e = sym (length-map lines line_of) ∙ ap length e

in_order : (o : Op) (other : Op × (ℕ × List ℕ × List FieldKind)) → get_or (map paired ops) (op_byte o - 1) other ≡ paired o
in_order op.Hello other = refl
in_order _ other = refl

-- the line of an op stands at its byte
pub line_at : (lines : List AskShape) (o : Op) (n : ℕ) (other : AskShape) → n ≡ op_byte o → map line_of lines ≡ map paired ops
    → line_of (get_or lines (n - 1) other) ≡ paired o
line_at lines o n other is e =
    let place : n - 1 ≡ op_byte o - 1 = ap (λ m. m - 1) is in
    sym (get_or-map line_of lines (n - 1) other) ∙ ap (λ (l : List (Op × (ℕ × List ℕ × List FieldKind))). get_or l (n - 1) (line_of other)) e
    ∙ ap (λ (m : ℕ). get_or (map paired ops) m (line_of other)) place ∙ in_order o (line_of other)
