use Rattle.rk_core.proofs.Words.{◌≡◌, ℕ, Bool, true, false, refl, sym, ap, ◌∙◌, both_ways, inl, inr, Option, Some, None, Err, is_some, option_map_or, is_rival, with_link, rings_seen, World, Rings}
use Rattle.rk_core.proofs.Words.{RingFault, Numbered, refused_if, rings_changed, linked_in, full_refusal, is_full_for, world_of, rival_in, holds}
use Rattle.std.specs.FinMap as map
use Rattle.rk_names.specs.declared.errors.Errno.TheVariants as errno
use Rattle.rk_rings.specs.Numbered as numbered
use Rattle.rk_core.proofs.LinksAndNames.NumbersKept.{kept_link, either_way}
use Rattle.rk_core.proofs.LinksAndNames.LinksByNumber.{full_by_number, held_has_room, seen_linked, not_there, rival_told, none_told}
use Rattle.rk_core.proofs.tables.Tables.put_link.Goals as goal
use Rattle.rk_core.proofs.tables.Tables.put_link.Goals.{in-Ok, in-Err}

pub invariant_of-self : goal.invariant_of-self
invariant_of-self c =
    kept_link c.self.inside.keys c.self.inside.rings c.link.new.self c.in-Some.ring c.args.key c.in-Some-number.name
    (sym c.number.ensures.number ∙ c.in-Some-number.is)
    (either_way c.link.result _ _ c.link.ensures.ok c.link.ensures.err) c.self.invariant

pub returns : goal.returns
returns c = elim c.match-link.branch [
  | in-Ok w ↦
      let room : is_full ≡ false = has_room is_full (holds c.self.inside.rings c.in-Some.ring c.args.key)
      (held_has_room c.self.inside.keys c.self.inside.rings c.in-Some.ring c.args.key c.in-Some-number.name c.self.invariant number)
      (λ full free. let both = sym w.in-Ok.is ∙ c.link.ensures.full.1 (full, free) in absurd (cc)) in
      let seen : rings_seen c.link.new.self ≡ rings_changed c.args.ring.now (with_link (is_rival before.keys c.args.key) c.args.key) before.rings =
      ap rings_seen w.in-Ok.ensures.ok
      ∙ seen_linked c.self.inside.keys c.self.inside.rings c.in-Some.ring c.args.key c.in-Some-number.name c.number.ensures.naming c.self.invariant number
      ∙ ap (λ (o : Option ℕ). rings_changed o (with_link (is_rival before.keys c.args.key) c.args.key) before.rings) (sym c.in-Some.is) in
      rw w.result-is (
        refused ∙ ap (λ b. refused_if b errno.Edquot) room,
        (λ i. record before { rings = seen i }) ∙ ap (linked_in c.args.ring.now c.args.key) c.self.view_is,
        λ j.
            (λ i. rival_in (sym c.self.view_is i) (c.in-Some.is i) c.args.key j)
            ∙ rival_told c.self.inside.keys c.self.inside.rings c.in-Some.ring c.args.key c.in-Some-number.name c.number.ensures.naming c.self.invariant
            number w.in-Ok.rival w.in-Ok.ensures.rival j,
      )
  | in-Err w ↦ elim w.in-Err.ensures.others [
    | inl absent ↦
        let none : map.contains_key c.self.inside.rings c.in-Some.ring ≡ false =
        c.link.ensures.no_ring.0 (w.in-Err.is ∙ ap (λ (f : RingFault). Err f) absent) in
        let seen : rings_seen c.link.new.self ≡ rings_changed c.args.ring.now (with_link (is_rival before.keys c.args.key) c.args.key) before.rings =
        ap rings_seen w.in-Err.ensures.err
        ∙ sym (not_there c.self.inside.rings c.in-Some.ring c.args.key (with_link (is_rival before.keys c.args.key) c.args.key) none)
        ∙ ap (λ (o : Option ℕ). rings_changed o (with_link (is_rival before.keys c.args.key) c.args.key) before.rings) (sym c.in-Some.is) in
        rw (w.result-is, w.unlinked.ensures.absent absent) (
          refused ∙ ap (λ b. refused_if b errno.Edquot) (no_room (map.get c.self.inside.rings c.in-Some.ring) none),
          (λ i. record before { rings = seen i }) ∙ ap (linked_in c.args.ring.now c.args.key) c.self.view_is,
          λ j.
              (λ i. rival_in (sym c.self.view_is i) (c.in-Some.is i) c.args.key j)
              ∙ none_told c.self.inside.keys c.self.inside.rings c.in-Some.ring c.args.key c.in-Some-number.name c.number.ensures.naming c.self.invariant
              number none j,
        )
    | inr full ↦
        rw (w.result-is, w.unlinked.ensures.full full) (
          refused
              ∙ ap (λ b. refused_if b errno.Edquot) (c.link.ensures.full.0 (w.in-Err.is ∙ ap (λ (f : RingFault). Err f) full)).0,
          ap (λ (rings : Rings). record before { rings = rings_seen rings }) w.in-Err.ensures.err ∙ c.self.view_is,
        )
  ]
]
  where
    before : World
    before = world_of c.self.inside.negative c.self.inside.keys c.self.inside.rings c.self.inside.auths.sessions

    number : map.get c.self.inside.keys.numbers c.args.key ≡ Some c.in-Some-number.name
    number = sym c.number.ensures.number ∙ c.in-Some-number.is

    is_full : Bool
    is_full = numbered.is_full_at c.self.inside.rings c.in-Some.ring (Some c.in-Some-number.name)

    -- whether the ring refuses the key, by the number of its name
    refused : full_refusal c.args.self.now c.args.ring.now c.args.key ≡ refused_if is_full errno.Edquot
    refused =
        ap (λ (o : Option ℕ). full_refusal c.args.self.now o c.args.key) c.in-Some.is
        ∙ ap (λ b. refused_if b errno.Edquot) (sym (
        full_by_number c.self.inside.keys c.self.inside.rings c.in-Some.ring c.args.key c.in-Some-number.name c.number.ensures.naming c.self.invariant number
        ∙ ap (λ (w : World). is_full_for w c.in-Some.ring c.args.key) c.self.view_is))

    has_room : (full held : Bool) → (held ≡ true → full ≡ false) → (full ≡ true → held ≡ false → ⊥) → full ≡ false
    has_room false held room full_yet = refl
    has_room true true room full_yet = room refl
    has_room true false room full_yet = absurd (full_yet refl refl)

    no_room : (o : Option Numbered) → is_some o ≡ false → option_map_or (numbered.is_full (Some c.in-Some-number.name)) o false ≡ false
    no_room None h = refl
    no_room (Some r) h = absurd (both_ways true h refl)
