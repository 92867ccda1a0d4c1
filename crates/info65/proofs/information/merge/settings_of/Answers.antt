use Rattle.std.proofs.Common.{◌∙◌, ◌≤◌, ℕ, ap, map, refl, subst, sym}
use Rattle.std.specs.Prelude.{IfSome, Option}
use Rattle.std.specs.Option.{option_or, unwrap_or}
use Rattle.info65.specs.Words.{AreOptions, IsColumn, OptionsView, as_name, as_number, form_of, global_given, group_seen, settings_of, value_in}
use Rattle.info65.specs.declared.syntax.attribute.Attribute.TheVariants as attribute
use Rattle.info65.proofs.FormLemmas.{file_name_formed, lent_name, settings_in_limits}
use Rattle.info65.proofs.information.merge.settings_of.Goals as goal

pub first_name-requires : goal.first_name-requires
unfolding form_of
first_name-requires g c = lent_name _ _ (c.as_name-input_given.ensures ∙ ap as_name c.global_value.ensures) (file_name_formed attribute.InputName (global_given (map group_seen c.args.groups.now)) refl c.requires)

pub first_name-requires-2 : goal.first_name-requires-2
unfolding form_of
first_name-requires-2 g c = lent_name _ _ (c.as_name-output_given.ensures ∙ ap as_name c.global_value-2.ensures) (file_name_formed attribute.OutputName (global_given (map group_seen c.args.groups.now)) refl c.requires)

pub invariant_of-result : goal.invariant_of-result
unfolding settings_of
invariant_of-result g c =
    let limits = settings_in_limits c.args.options.now (global_given (map group_seen c.args.groups.now)) (subst AreOptions c.options.view_is c.options.invariant) c.requires in
    let offset = c.unwrap_or.ensures ∙ ap (λ (n : Option ℕ). unwrap_or n 0) (c.as_number-offset_given.ensures ∙ ap as_number c.global_value-3.ensures) in
    let size = c.as_number-size.ensures ∙ ap as_number c.global_value-7.ensures in
    record {
      offset = subst (λ (n : ℕ). n ≤ 16_777_216) (sym offset) limits.offset;
      size = subst (λ (n : Option ℕ). IfSome n (λ n. (1 ≤ n) × (n ≤ 0x1_0000))) (sym size) limits.size;
      comments = subst (λ (n : ℕ). n ≤ 4) (sym (c.number_of.ensures ∙ ap (λ (o : OptionsView). unwrap_or (option_or o.comments (as_number (value_in attribute.Comments (global_given (map group_seen c.args.groups.now))))) 0) c.options.view_is)) limits.comments;
      mnemonic_column = subst IsColumn (sym (c.number_of-2.ensures ∙ ap (λ (o : OptionsView). unwrap_or (option_or o.mnemonic_column (as_number (value_in attribute.MnemonicColumn (global_given (map group_seen c.args.groups.now))))) 9) c.options.view_is)) limits.mnemonic_column;
      argument_column = subst IsColumn (sym (c.number_of-3.ensures ∙ ap (λ (o : OptionsView). unwrap_or (option_or o.argument_column (as_number (value_in attribute.ArgumentColumn (global_given (map group_seen c.args.groups.now))))) 17) c.options.view_is)) limits.argument_column;
      comment_column = subst IsColumn (sym (c.number_of-4.ensures ∙ ap (λ (o : OptionsView). unwrap_or (option_or o.comment_column (as_number (value_in attribute.CommentColumn (global_given (map group_seen c.args.groups.now))))) 49) c.options.view_is)) limits.comment_column;
      text_column = subst IsColumn (sym (c.number_of-5.ensures ∙ ap (λ (o : OptionsView). unwrap_or (option_or o.text_column (as_number (value_in attribute.TextColumn (global_given (map group_seen c.args.groups.now))))) 81) c.options.view_is)) limits.text_column;
      label_break = subst (λ (n : ℕ). n ≤ 120) (sym (c.number_of-6.ensures ∙ ap (λ (o : OptionsView). unwrap_or (option_or o.label_break (as_number (value_in attribute.LabelBreak (global_given (map group_seen c.args.groups.now))))) 7) c.options.view_is)) limits.label_break;
    }
