use Rattle.std.proofs.Common.{refl}
use Rattle.label_set.specs.Flat.{first_label, after_first}
use Rattle.label_set.proofs.FlatLemmas.{first_of}
use Rattle.label_set.proofs.labels.split_first.Goals as goal

pub lengths-name_len-requires : goal.lengths-name_len-requires
lengths-name_len-requires c = (first_of c.args.bytes.now c.requires.flat c.requires.some).head

pub split_at-requires : goal.split_at-requires
split_at-requires c = (first_of c.args.bytes.now c.requires.flat c.requires.some).head

pub split_at-requires-2 : goal.split_at-requires-2
split_at-requires-2 c =
    rw (c.lengths-name_len.ensures.name, c.split_at.ensures.back) (first_of c.args.bytes.now c.requires.flat c.requires.some).name_in

pub split_at-requires-3 : goal.split_at-requires-3
split_at-requires-3 c =
    rw (c.lengths-name_len.ensures.value, c.split_at-2.ensures.back, c.lengths-name_len.ensures.name, c.split_at.ensures.back) (first_of c.args.bytes.now c.requires.flat c.requires.some).value_in

pub text-requires : goal.text-requires
unfolding first_label
text-requires c =
    rw (c.split_at-2.ensures.front, c.lengths-name_len.ensures.name, c.split_at.ensures.back) (first_of c.args.bytes.now c.requires.flat c.requires.some).label.name_text

pub text-requires-2 : goal.text-requires-2
unfolding first_label
text-requires-2 c =
    rw (c.split_at-3.ensures.front, c.lengths-name_len.ensures.value, c.split_at-2.ensures.back, c.lengths-name_len.ensures.name, c.split_at.ensures.back) (first_of c.args.bytes.now c.requires.flat c.requires.some).label.value_text

pub returns-clause-labels : goal.returns-clause-labels
unfolding first_label after_first
returns-clause-labels c =
    rw (c.text.ensures, c.text-2.ensures, c.split_at-3.ensures.front, c.split_at-3.ensures.back, c.lengths-name_len.ensures.value, c.split_at-2.ensures.front, c.split_at-2.ensures.back, c.lengths-name_len.ensures.name, c.split_at.ensures.back) (first_of c.args.bytes.now c.requires.flat c.requires.some).labels

pub returns-clause-flat : goal.returns-clause-flat
unfolding after_first
returns-clause-flat c =
    rw (c.split_at-3.ensures.back, c.lengths-name_len.ensures.value, c.split_at-2.ensures.back, c.lengths-name_len.ensures.name, c.split_at.ensures.back) (first_of c.args.bytes.now c.requires.flat c.requires.some).rest

pub returns-clause-bytes : goal.returns-clause-bytes
unfolding first_label after_first
returns-clause-bytes c =
    rw (c.text.ensures, c.text-2.ensures, c.split_at-3.ensures.front, c.split_at-3.ensures.back, c.lengths-name_len.ensures.value, c.split_at-2.ensures.front, c.split_at-2.ensures.back, c.lengths-name_len.ensures.name, c.split_at.ensures.back) (first_of c.args.bytes.now c.requires.flat c.requires.some).bytes

pub returns-clause-first : goal.returns-clause-first
unfolding first_label
returns-clause-first c =
    rw (c.text.ensures, c.text-2.ensures, c.split_at-3.ensures.front, c.lengths-name_len.ensures.value, c.split_at-2.ensures.front, c.split_at-2.ensures.back, c.lengths-name_len.ensures.name, c.split_at.ensures.back) refl
