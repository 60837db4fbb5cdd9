use Rattle.std.proofs.Common.{◌∙◌, ap, map, refl, sym, subst, bytes_eq, int_eq, IfOk}
use Rattle.std.proofs.lemmas.Map.Text.{is_eq-slice_cmp}
use Rattle.std.proofs.lemmas.Result.{IfOk-weaker}
use Rattle.sc_keys.specs.Groups.{AreGroups}
use Rattle.sc_keys.proofs.ViewLemmas.{are_groups-map}
use Rattle.sc_part.specs.Bounds.{is_same_key}
use Rattle.sc_value.specs.Keys.{number_key, text_key}
use Rattle.sc_value.specs.Views.{key_data_of}
use Rattle.sc_keys.proofs.keyed.Keys.groups.Goals as goal

pub returns-in-Some : goal.returns-in-Some
returns-in-Some c =
    let keys = c.in-Some.ints.now in
    IfOk-weaker c.group_ints.result (λ g. AreGroups int_eq keys g.numbers.items g.count)
    (λ g. AreGroups is_same_key c.args.self.now g.numbers.items g.count)
    (λ g are. subst (λ ks. AreGroups is_same_key ks g.numbers.items g.count)
    (sym c.in-Some.ensures)
    (are_groups-map number_key int_eq is_same_key (λ a b. refl) keys g.numbers.items
    g.count are))
    c.group_ints.ensures

pub returns-in-Some-texts : goal.returns-in-Some-texts
returns-in-Some-texts c =
    let keys = c.in-Some-texts.texts.now in
    IfOk-weaker c.group_texts.result (λ g. AreGroups bytes_eq keys g.numbers.items g.count)
    (λ g. AreGroups is_same_key c.args.self.now g.numbers.items g.count)
    (λ g are. subst (λ ks. AreGroups is_same_key ks g.numbers.items g.count)
    (sym c.in-Some-texts.ensures)
    (are_groups-map text_key bytes_eq is_same_key (λ s t. sym (is_eq-slice_cmp s t)) keys
    g.numbers.items g.count are))
    c.group_texts.ensures

pub returns : goal.returns
returns c =
    subst (λ ks. IfOk c.group_keys.result (λ g. AreGroups is_same_key ks g.numbers.items g.count))
    (ap (map key_data_of) c.deref.ensures.value ∙ c.in_ok-keys.ensures) c.group_keys.ensures
