use Rattle.std.proofs.Common.{rules}
use Rattle.label_set.proofs.FlatLemmas.{first_of, first_whole, first_bytes, first_others}
use Rattle.label_set.proofs.labels.split_first_bytes.Goals as goal

pub lengths-name_len-requires : goal.lengths-name_len-requires
lengths-name_len-requires c = (first_of c.args.bytes.now c.requires.flat c.requires.some).head

pub overflow_add-name_len : goal.overflow_add-name_len
overflow_add-name_len c =
    let fits = first_whole c.args.bytes.now (first_of c.args.bytes.now c.requires.flat c.requires.some) in
    rw c.lengths-name_len.ensures.name (search (rules, fits))

pub overflow_add-name_len-2 : goal.overflow_add-name_len-2
overflow_add-name_len-2 c =
    let fits = first_whole c.args.bytes.now (first_of c.args.bytes.now c.requires.flat c.requires.some) in
    rw (c.lengths-name_len.ensures.name, c.lengths-name_len.ensures.value) (search (rules, fits))

pub split_at-requires : goal.split_at-requires
split_at-requires c =
    rw (c.lengths-name_len.ensures.name, c.lengths-name_len.ensures.value) (first_whole c.args.bytes.now (first_of c.args.bytes.now c.requires.flat c.requires.some))

pub returns-clause-first : goal.returns-clause-first
returns-clause-first c =
    rw (c.split_at.ensures.front, c.lengths-name_len.ensures.name, c.lengths-name_len.ensures.value) (first_bytes c.args.bytes.now (first_of c.args.bytes.now c.requires.flat c.requires.some))

pub returns-clause-label : goal.returns-clause-label
returns-clause-label c = (first_of c.args.bytes.now c.requires.flat c.requires.some).label

pub returns-clause-labels : goal.returns-clause-labels
returns-clause-labels c =
    let f = first_of c.args.bytes.now c.requires.flat c.requires.some in
    rw (c.split_at.ensures.back, c.lengths-name_len.ensures.name, c.lengths-name_len.ensures.value, first_others c.args.bytes.now f) f.labels

pub returns-clause-flat : goal.returns-clause-flat
returns-clause-flat c =
    let f = first_of c.args.bytes.now c.requires.flat c.requires.some in
    rw (c.split_at.ensures.back, c.lengths-name_len.ensures.name, c.lengths-name_len.ensures.value, first_others c.args.bytes.now f) f.rest
