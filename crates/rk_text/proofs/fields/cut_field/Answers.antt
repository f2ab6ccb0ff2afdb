use Rattle.std.proofs.Common.{◌<◌, length, sym, ◌∙◌}
use Rattle.rk_text.proofs.Cuts.{no_bytes, first_field, field_text, pos_len, none_left, some_left}
use Rattle.rk_text.proofs.fields.cut_field.Goals as goal

pub returns-then-is_empty-clause-cut : goal.returns-then-is_empty-clause-cut
returns-then-is_empty-clause-cut c = sym c.skip_space-text.ensures.same ∙ no_bytes c.args.space c.skip_space-text.result.now (none_left (length c.skip_space-text.result.now) c.is_empty.result c.is_empty.ensures c.if-is_empty.true)

pub returns-clause-cut : goal.returns-clause-cut
returns-clause-cut c =
    let text = c.skip_space-text.result.now in
    let some : 0 < length text = some_left (length text) c.is_empty.result c.is_empty.ensures c.if-is_empty.false in
    let pos = pos_len c.args.space text c.field_len.result some c.skip_space-text.ensures.first c.field_len.ensures.at in
    let cut = first_field c.args.space text c.field_len.result c.field_len.ensures.within pos c.field_len.ensures.before c.field_len.ensures.at in
    rw (c.split_at.ensures.front, c.split_at.ensures.back) (sym c.skip_space-text.ensures.same ∙ cut)

pub returns-clause-field : goal.returns-clause-field
returns-clause-field c t =
    rw (c.split_at.ensures.front) ((field_text c.args.space c.skip_space-text.result.now c.field_len.result c.field_len.ensures.within c.field_len.ensures.at (c.skip_space-text.ensures.text t)).0)

pub returns-clause-rest : goal.returns-clause-rest
returns-clause-rest c t =
    rw (c.split_at.ensures.back) ((field_text c.args.space c.skip_space-text.result.now c.field_len.result c.field_len.ensures.within c.field_len.ensures.at (c.skip_space-text.ensures.text t)).1)
