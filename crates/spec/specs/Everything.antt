-- Every definition of the crate that computes, named once: under `unfolding everything` a closed term computes to its value.
use Rattle.spec.specs.Bytes
use Rattle.spec.specs.Utf8
use Rattle.spec.specs.Fields
use Rattle.spec.specs.Tree
use Rattle.spec.specs.Questions
use Rattle.spec.specs.Out
use Rattle.spec.specs.Names
use Rattle.spec.specs.Md.Ctx
use Rattle.spec.specs.Md.TextUtils
use Rattle.spec.specs.Md.Heading
use Rattle.spec.specs.Md.MDSerializer
use Rattle.spec.specs.Md.Elements.Blocks
use Rattle.spec.specs.Md.Elements.Image
use Rattle.spec.specs.Md.Elements.Code
use Rattle.spec.specs.Md.Elements.Emphasis
use Rattle.spec.specs.Md.Elements.Link
use Rattle.spec.specs.Md.Elements.Table
use Rattle.spec.specs.Md.Elements.List as MdElementsList
use Rattle.spec.specs.Md.Serializer
use Rattle.spec.specs.Md
use Rattle.spec.specs.Call
use Rattle.spec.specs.Entries
use Rattle.spec.specs.ListNumber
use Rattle.spec.specs.Plain
use Rattle.spec.specs.SheetList
use Rattle.spec.specs.Reading.Lines
use Rattle.spec.specs.Reading.Tags
use Rattle.spec.specs.Reading.Inline
use Rattle.spec.specs.Reading.Html
use Rattle.spec.specs.Reading.Starts
use Rattle.spec.specs.Reading.Tables
use Rattle.spec.specs.Reading.Definitions
use Rattle.spec.specs.Reading.Held
use Rattle.spec.specs.Reading.Step
use Rattle.spec.specs.Reading
use Rattle.spec.specs.Pieces.Integers
use Rattle.spec.specs.Pieces.Escapes
use Rattle.spec.specs.Pieces.CodeSpans
use Rattle.spec.specs.Pieces.Fences
use Rattle.spec.specs.Pieces.Links
use Rattle.spec.specs.Pieces.Srcset
use Rattle.spec.specs.Pieces.Lines as PiecesLines
use Rattle.spec.specs.Pieces.Tables as PiecesTables
use Rattle.spec.specs.Pieces.Emphasis as PiecesEmphasis
use Rattle.spec.specs.Pieces.EmphasisReading
use Rattle.spec.specs.Pieces.LinkWholes
use Rattle.spec.specs.Pieces.Images
use Rattle.spec.specs.Pieces.Items

unfoldable pub everything : Unit {0}
unfolding Bytes.null Bytes.same Bytes.isin Bytes.among Bytes.every Bytes.starts_with Bytes.ends_with Bytes.white Bytes.blank Bytes.digit Bytes.one Bytes.white_space_of Bytes.is_white_space Bytes.unless Bytes.trim_end_matches Bytes.trim_start_matches Bytes.trim_ascii_end Bytes.trim_ascii_start Bytes.is_blank Bytes.trim_end Bytes.white_width Bytes.trim_from Bytes.trim Bytes.take_while Bytes.cut_at Bytes.parts Bytes.split Bytes.filled Bytes.words Bytes.first_word Bytes.join_rest Bytes.join Bytes.or_else Bytes.or_nothing Bytes.value_from Bytes.digits_of Bytes.decimal Utf8.to Utf8.row Utf8.sequences Utf8.within Utf8.begins Utf8.following Utf8.fits Utf8.due_after Utf8.well_formed Utf8.is_utf8 Fields.word Fields.whole_from Fields.whole Fields.fields_from Fields.fields Tree.first Tree.others Tree.node_then Tree.open_then Tree.name_then Tree.value_then Tree.close_then Tree.field_then Tree.tail Tree.tree_of Tree.size Tree.height Tree.node_at Tree.attr Tree.attrs_of Tree.kids_of Tree.text_of Questions.every_field Questions.question1 Questions.question2 Questions.may_follow Questions.right_length Questions.open_after Questions.no_stray Questions.keep_rules Questions.still_open Questions.question3 Questions.utf8_body Questions.question4 Questions.nodes_in Questions.node_count Questions.max_open Questions.shallow Questions.question5 Questions.no_blockquote Questions.question6 Questions.question7 Questions.skip_name Questions.question8 Questions.question9 Questions.first_no Questions.refusal Out.cut Out.keep Out.push Out.replace Out.and_then Out.beside Out.inside Out.nested Out.inside_all Out.nested_all Names.names Names.place Names.tag_of Ctx.offset_of Ctx.list_context Ctx.prefix_of Ctx.prefix Ctx.with_kind Ctx.advanced Ctx.advance_ol_number TextUtils.is_ordered_list_marker TextUtils.before_marker TextUtils.at_indent TextUtils.ends_with_marker_digits TextUtils.is_escaped TextUtils.escaped_from TextUtils.escaped_chunk TextUtils.push_escaped_chunk TextUtils.ends_with_white TextUtils.starts_with_white TextUtils.more_words TextUtils.normalized_words TextUtils.normalized TextUtils.push_normalized_text TextUtils.escape_trailing_bang TextUtils.trim_blanks TextUtils.trim_trailing_space TextUtils.breaks_until TextUtils.add_linebreaks TextUtils.push_block_space TextUtils.trim_space TextUtils.is_nbsp TextUtils.entity TextUtils.html_from TextUtils.html_escape TextUtils.wants_wrap TextUtils.needs_wrap TextUtils.wrapped_byte TextUtils.backslash_twice TextUtils.quote_escaped TextUtils.each_byte TextUtils.destination TextUtils.push_md_url TextUtils.quoted_title TextUtils.push_title Heading.is_heading Heading.md_prefix Heading.escape_closing_hashes MDSerializer.write_kids MDSerializer.write Blocks.is_md_block Blocks.is_link_block Blocks.is_list Image.filled_value Image.first_source Image.source Image.if_some Image.image_of Image.write_img Code.is_alphanumeric Code.filter Code.sanitize_attr_value Code.find_code_lang_attribute Code.nearest_language Code.language_class Code.class_language Code.find_code_language_css_class Code.find_code_language Code.longest_run Code.max_backtick_run Code.backticks Code.needs_space Code.code_span Code.push_code_text Code.pre_in_link Code.fenced_block Code.write_pre Code.is_multiline Code.blank_for_br Code.close_skip_md Code.write_skip_md Code.is_tab_or_blank Code.trim_edges Code.inline_code Code.write_code Emphasis.md_emphasis Emphasis.backslashes Emphasis.is_exact_marker_end Emphasis.ends_with_emphasis Emphasis.drop_end Emphasis.try_trim_prev_emphasis_marker Emphasis.closed Emphasis.push_marked Emphasis.push_emphasis Emphasis.write_emphasis Link.has_element Link.has_descendant_img Link.write_text Link.link_end Link.link_of Link.blank_link Link.body_link Link.text_link Link.link_to Link.href_or Link.write_link Table.ends_with_cell_break Table.add_cell_block_break Table.without_breaks Table.trim_trailing_cell_break Table.pipes_escaped Table.escape_table_cell_inplace Table.is_table_cell Table.cells_of Table.rows_of Table.from_cells Table.all_th Table.table_header_row Table.data_rows Table.equal_rows Table.is_table_node_writable Table.cell_text Table.row_texts Table.table_texts Table.texts Table.concat Table.width_of Table.filled_up Table.line Table.dashes Table.lines Table.table_of Table.write_table MdElementsList.clamped MdElementsList.parse_list_number MdElementsList.number_of MdElementsList.number_or MdElementsList.start_of MdElementsList.name_of MdElementsList.node_is_list_item_block MdElementsList.has_blocks MdElementsList.only_blocks MdElementsList.is_block_wrapper MdElementsList.node_is_block_wrapper MdElementsList.has_text_before_list MdElementsList.can_interrupt_paragraph MdElementsList.begin_item MdElementsList.write_list_item MdElementsList.going MdElementsList.continuation MdElementsList.boundary MdElementsList.truncate MdElementsList.at_line_start MdElementsList.more_lines MdElementsList.block_lines MdElementsList.is_line_end MdElementsList.own_line MdElementsList.write_list_item_indented MdElementsList.rule_block MdElementsList.block_lead MdElementsList.flow_block MdElementsList.block_child MdElementsList.inline_child MdElementsList.due_line MdElementsList.item_child MdElementsList.item_children MdElementsList.item_from MdElementsList.begun_with MdElementsList.write_list_item_blocks MdElementsList.renumbered MdElementsList.list_item_text MdElementsList.list_children MdElementsList.kind_of MdElementsList.write_list Serializer.is_tight Serializer.open_break Serializer.opened Serializer.close_block Serializer.close_line Serializer.close_md Serializer.closed Serializer.has_writer Serializer.write_element Serializer.in_element Serializer.write_element_node Serializer.write_nodes Serializer.write_at Serializer.serializer Serializer.levels Serializer.write_found Serializer.write_fragment Serializer.serialize Md.serialize_md Call.bodies Call.tags_to_skip Call.written Call.question10 Call.zeros Call.refused Call.no_room Call.accepted Call.answer_for Call.call Entries.code_each Entries.code_list Entries.code_option Entries.code_number Entries.code_piece Entries.code_words Entries.code_cells Entries.code_entry Entries.same_entries ListNumber.largest_number ListNumber.digits_value ListNumber.positive ListNumber.negative ListNumber.signed_value ListNumber.list_number ListNumber.as_number ListNumber.or_else ListNumber.first_due ListNumber.item_value ListNumber.item_number ListNumber.next_due Plain.wide_blanks Plain.begins_with_any Plain.ends_with_any Plain.last_word Plain.plain_ends Plain.without Plain.plain_text Plain.fixed_text Plain.no_node Plain.one_text Plain.only Plain.list_attrs Plain.is_cell Plain.is_row_group Plain.cells Plain.row Plain.rows Plain.table_parts Plain.count_nodes Plain.rows_of Plain.all_have Plain.equal_rows Plain.plain_table Plain.is_list_name Plain.counts_on Plain.is_wrapper Plain.holds_text Plain.leaf Plain.block Plain.blocks Plain.plain Plain.items Plain.item_content Plain.lists SheetList.first_text SheetList.words_of SheetList.with_final_lf SheetList.cells_of SheetList.all_th SheetList.table_entry SheetList.is_heading_name SheetList.own SheetList.depth_inside SheetList.due_behind SheetList.entries SheetList.sheet_list Lines.punctuation Lines.letter Lines.letter_or_digit Lines.space_or_tab Lines.head_is Lines.drop_while Lines.run Lines.drop_run Lines.contains Lines.safe_byte Lines.safe Lines.ends_line Lines.line_byte Lines.cut_lines Lines.without_last Lines.lines Lines.blank_line Lines.width Lines.column Lines.strip Lines.unindent Tags.tag_white Tags.tag_end Tags.closing_end Tags.name_byte Tags.attribute_begin Tags.attribute_byte Tags.next_part Tags.behind_part Tags.named Tags.behind_tag Tags.is_some Tags.maybe_tag Tags.tag Tags.letter_next Tags.declared Tags.instruction Tags.scheme_byte Tags.uri_end Tags.behind_scheme Tags.uri Tags.address_byte Tags.domain_byte Tags.behind_address Tags.email Tags.angle Inline.escaped Inline.slashed Inline.bare Inline.unescape Inline.behind Inline.anywhere Inline.backticks Inline.code_span Inline.beside Inline.ahead Inline.is_text Inline.is_punctuation Inline.is_unknown Inline.left_flanking Inline.may_open Inline.opens_and_closes Inline.lengths_match Inline.closes_run Inline.may_close Inline.opens_run Inline.emphasis Inline.link_end Inline.link Inline.then_semicolon Inline.some_semicolon Inline.hex_digit Inline.at_most Inline.numeric Inline.reference Inline.mark Inline.begins_by Inline.begins Inline.pieces Inline.inline Html.lower_byte Html.lower Html.name_ends Html.tag_ends Html.name_of Html.behind_name Html.verbatim_tags Html.verbatim Html.block_tags Html.block_tag Html.open_slash Html.blank_behind Html.complete_tag Html.declares Html.html_kind Html.ends_verbatim Html.ends_html Starts.thematic_break Starts.closing_sequence Starts.without_closing Starts.ends Starts.atx_heading_by Starts.atx_heading Starts.underline Starts.fence_by Starts.fence Starts.closing_fence Starts.bullet_by Starts.bullet Starts.rule_or Starts.number_by Starts.number Starts.html Starts.lead Starts.start_by Starts.start Starts.starts_at_one Starts.start_if Starts.interrupting Starts.underline_or Starts.start_in Tables.cell_blank Tables.blank_cell Tables.in_cell Tables.cell_byte Tables.cells Tables.untrailed Tables.piped Tables.unpiped Tables.row_by Tables.row Tables.drop_colon Tables.hyphens Tables.delimiter_cell Tables.delimiter_cells Tables.delimiter_row Tables.fit Definitions.blank_or_end Definitions.destination Definitions.label Definitions.definition Held.entry_if Held.empty_item Held.text_entries Held.blank_row Held.headings Held.cell_pieces Held.table_entry Held.closed Held.is_paragraph Held.is_fresh Held.is_raw Held.is_table Held.is_code Held.is_quote Held.with_line Held.add_line Held.last_line Held.other_lines Held.lines_of Held.heading_row Held.opens_table Held.above_by Held.above Held.any_delimiter Held.behind_first Held.tried_before Step.kept Step.all_kept Step.base Step.without_innermost Step.alone Step.role_in Step.content_column Step.indented Step.indented_line Step.text_by Step.goes_on Step.text_line Step.one_line Step.underlined Step.quoted Step.html_line Step.opened Step.item_line Step.line_by Step.line_in Step.line Step.blank_step Step.leaf_step Step.raw_line Step.raw_step Step.step_by Step.step Reading.read_lines Reading.finish Reading.read Integers.signed Integers.behind_white Integers.integer Integers.as_list_number Escapes.replaced_from Escapes.replaced Escapes.ampersands Escapes.no_break_spaces Escapes.angle_brackets Escapes.quotation_marks Escapes.escaped_attribute CodeSpans.preceded CodeSpans.up_to CodeSpans.unbroken CodeSpans.inner CodeSpans.stripped CodeSpans.content CodeSpans.code_span Fences.info_string Fences.closes Fences.content_of Fences.fenced_by Fences.fenced Fences.line_feeds Links.ref_name Links.escapes Links.referred Links.unit Links.meaning Links.pointed Links.control Links.open_behind Links.closes_none Links.balanced Links.link_destination Links.destination_meaning Links.enclosed Links.enclosed_by Links.no_blank_line Links.link_title Links.title_meaning Srcset.comma Srcset.white_or_comma Srcset.splitting Srcset.collected Srcset.url Srcset.first_url Srcset.with_current Srcset.descriptors Srcset.behind_url Srcset.candidate Srcset.first_candidate PiecesLines.is_text_start PiecesLines.stripped PiecesLines.heading_content PiecesLines.continues PiecesLines.hard_break PiecesTables.cell_text PiecesTables.cell_content PiecesTables.cell_contents PiecesTables.breaks_table PiecesTables.table_rows PiecesTables.table_in PiecesEmphasis.ends_bare PiecesEmphasis.run_begins PiecesEmphasis.can_open PiecesEmphasis.can_close EmphasisReading.joined EmphasisReading.bytes EmphasisReading.run_at EmphasisReading.behind_slash EmphasisReading.tokens EmphasisReading.stack EmphasisReading.signs EmphasisReading.opener EmphasisReading.put_on EmphasisReading.put EmphasisReading.matches EmphasisReading.look_back EmphasisReading.taken EmphasisReading.wrapped EmphasisReading.inserted EmphasisReading.unmatched EmphasisReading.closing EmphasisReading.delimited EmphasisReading.processed EmphasisReading.ended EmphasisReading.whole EmphasisReading.foreign EmphasisReading.inlines_by EmphasisReading.inlines EmphasisReading.after EmphasisReading.bytes_of EmphasisReading.between EmphasisReading.emphasis_then EmphasisReading.phrases EmphasisReading.phrases_in EmphasisReading.read LinkWholes.span_by LinkWholes.span_length LinkWholes.brackets_behind LinkWholes.span_behind LinkWholes.link_text LinkWholes.is_some LinkWholes.span_closes LinkWholes.balanced_text LinkWholes.without_ending LinkWholes.after_space LinkWholes.pointed_up_to LinkWholes.bare_up_to LinkWholes.destination_of LinkWholes.title_up_to LinkWholes.title_of LinkWholes.opens_title LinkWholes.closing LinkWholes.titled LinkWholes.with_destination LinkWholes.with_text LinkWholes.bracketed LinkWholes.nested_link LinkWholes.holds_link LinkWholes.unless_nested LinkWholes.inline_link LinkWholes.inline_image Images.waits Images.opens_image Items.belongs Items.all_belong Items.content_lines
everything = tt
